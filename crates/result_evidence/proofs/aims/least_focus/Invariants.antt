use Rattle.std.proofs.Common.{◌<◌, length, take}
use Rattle.std.specs.Prelude.{MatchOption}
use Rattle.rdf_model.specs.Numbers.{graph_of}
use Rattle.shape_model.specs.Validation.{At}
use Rattle.result_evidence.specs.Standing.{ForShape, IsLeastIn}
use Rattle.result_evidence.proofs.aims.least_focus.Given as goal

abbrev pub invariant-loop-node : goal.invariant-loop-node
invariant-loop-node g l = record {
  least : ForShape l.evaluation.terms l.evaluation.shapes l.place
      (λ s shape. IsLeastIn l.evaluation.terms (λ f. At (graph_of l.evaluation.terms l.evaluation.ids) s shape f l.row) (take l.node-index l.nodes) l.least);
  number : MatchOption l.least (Unit {0}) (λ m. m < length l.evaluation.terms);
}
