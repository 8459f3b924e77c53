use Rattle.std.proofs.Common.{◌≡◌, map, take}
use Rattle.shape_eval.specs.Told.{answers_of}
use Rattle.shape_eval.proofs.told.answers_to.Given as goal

abbrev pub invariant-loop-node : goal.invariant-loop-node
invariant-loop-node l = map (λ a. a.items) l.lists.items ≡ map (answers_of l.told) (take l.node-index l.nodes)
