use Rattle.std.proofs.Common.{◌+◌, ◌∙◌, ℕ, List, ap, subst, arith}
use Rattle.std.specs.List.{Contains}
use Rattle.rdf_model.specs.declared.term.Term.{Term}
use Rattle.shape_syntax.proofs.Scans.{read_in}
use Rattle.reference_totals.specs.Totals.{capped}
use Rattle.shape_properties.specs.declared.property.ShapeProperty.{ShapeProperty}
use Rattle.shape_properties.specs.declared.property.ShapeProperty.TheVariants as properties
use Rattle.shape_model.specs.Limits.{looks_limit}
use Rattle.shape_sizes.proofs.LookWeights.{paths_next, value_may_be}
use Rattle.shape_sizes.proofs.OwnTriples.{own_values}
use Rattle.shape_sizes.proofs.Referred.{is_value}
use Rattle.shape_sizes.proofs.looks.looks_of_paths.Goals as goal

pub path_looks_at-requires-clause-node : goal.path_looks_at-requires-clause-node
path_looks_at-requires-clause-node c =
    let items = c.as_slice-value-items.result.now in
    let here = read_in items c.loop-value.value-index c.value-item.result (omega arith) c.value-item.is in
    let same = ap (λ (of : ShapeProperty → List Term). of properties.Path) (own_values c.args.graph.now c.args.own.now c.args.node.now c.requires.members) in
    let there = subst (λ (vs : List Term). Contains vs c.value-item.result) (c.as_slice-value-items.ensures.value ∙ c.in_ok-found.ensures ∙ same) here in
    value_may_be c.args.graph.now c.args.node.now c.value-item.result (is_value c.args.graph.now c.args.node.now properties.Path c.value-item.result there)

pub loop-value-preserved : goal.loop-value-preserved
loop-value-preserved c =
    paths_next c.args.graph.now c.as_slice-value-items.result.now c.loop-value.value-index c.value-item.result looks_limit c.loop-value.sum c.path_looks_at.result c.capped_sum-sum.result (omega arith) c.value-item.is c.loop-value.invariant c.path_looks_at.ensures
    (c.capped_sum-sum.ensures ∙ ap (λ (m : ℕ). capped m (c.loop-value.sum + c.path_looks_at.result)) c.most_looks.ensures.limit)
