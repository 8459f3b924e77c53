use Rattle.std.proofs.Common.{◌≡◌, [], drop}
use Rattle.shape_eval.specs.Told.{answers_of}
use Rattle.shape_eval.proofs.told.answers_to_one.Given as goal

-- no entry so far is for the node
abbrev pub invariant-loop-entry : goal.invariant-loop-entry
invariant-loop-entry l = (answers_of l.told l.node ≡ answers_of (drop l.entry-index l.told) l.node) × (l.answers.items ≡ [])
