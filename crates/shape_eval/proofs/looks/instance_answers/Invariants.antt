use Rattle.std.proofs.Common.{◌≡◌, false, get_or, length, take}
use Rattle.rdf_model.specs.Numbers.{graph_of, term_at}
use Rattle.shape_model.specs.Instances.{Instance, class_path}
use Rattle.shape_model.specs.NodeLooks.{PathReads}
use Rattle.component_rows.specs.Answers.{Tells}
use Rattle.path_eval.specs.Naming.{AddsLooks}
use Rattle.collections.specs.Listings.{Keeps}
use Rattle.shape_eval.specs.Looks.{ReadsOfSome}
use Rattle.shape_eval.proofs.looks.instance_answers.Given as goal

abbrev pub invariant-loop-node : goal.invariant-loop-node
invariant-loop-node g l =
    let terms = l.evaluation.terms in
    let graph = graph_of terms l.evaluation.ids in
    record {
      many : length l.answers.items ≡ l.node-index;
      told : Tells (λ i. Instance graph (term_at terms (get_or l.nodes i 0)) (term_at terms l.class)) l.node-index l.answers.items;
      looks : AddsLooks terms (ReadsOfSome (take l.node-index l.nodes) (λ n. PathReads graph false class_path (term_at terms n))) l.fn.footprint l.footprint;
      kept : Keeps l.fn.footprint l.footprint;
    }
