use Rattle.std.specs.Prelude.{◌↔◌}
use Rattle.std.specs.List.{Contains}
use Rattle.rdf_model.specs.declared.term.Term.{Term}
use Rattle.shape_references.specs.Steps.{IsAtMark}
use Rattle.shape_references.proofs.chains.marked_nodes.Given as goal

abbrev pub invariant-loop-index : goal.invariant-loop-index
invariant-loop-index l = (n : Term) → Contains l.nodes.keys n ↔ IsAtMark l.graph l.marks l.index n
