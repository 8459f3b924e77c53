use Rattle.std.proofs.Common.{ℕ, take}
use Rattle.std.specs.Prelude.{◌≢◌}
use Rattle.std.specs.List.{Contains}
use Rattle.rdf_model.specs.declared.term.Term.{Term}
use Rattle.rdf_model.specs.declared.term.Term.TheVariants.{Blank}
use Rattle.shape_sizes.proofs.stand_ins.are_apart.Given as goal

abbrev pub invariant-loop-node : goal.invariant-loop-node
invariant-loop-node l = (n : Term) → Contains (take l.node-index l.nodes) n → (i : ℕ) → n ≢ Blank 0 i
