use Rattle.std.proofs.Common.{get_or}
use Rattle.std.proofs.lemmas.List.Elements.{Contains-get_or}
use Rattle.shape_model.specs.declared.component.Component.TheVariants as components
use Rattle.component_rows.specs.Sites.{site_row}
use Rattle.value_constraints.specs.Closing.{ForbiddenEdge}
use Rattle.component_rows.proofs.Collecting.{grown, all_grown}
use Rattle.value_constraints.proofs.closed_shape.add_edges.Goals as goal

pub add_edge-requires-clause-edge : goal.add_edge-requires-clause-edge
add_edge-requires-clause-edge g c =
    c.requires.edges (get_or c.args.edges.now c.loop-edge.edge-index (0, 0)) (Contains-get_or c.args.edges.now c.loop-edge.edge-index (0, 0) c.loop-edge-test.true)

pub loop-edge-preserved : goal.loop-edge-preserved
loop-edge-preserved g c =
    let terms = c.args.site.now.terms in
    grown (ForbiddenEdge terms (site_row components.Closed c.args.site.now) c.args.allowed.now c.args.value)
    c.args.edges.now c.loop-edge.edge-index (0, 0) c.args.rows.now.items c.loop-edge.rows.items c.add_edge.new.rows.items c.loop-edge-test.true c.loop-edge.invariant c.in_ok-add_edge.ensures

pub returns : goal.returns
returns g c =
    let terms = c.args.site.now.terms in
    all_grown (ForbiddenEdge terms (site_row components.Closed c.args.site.now) c.args.allowed.now c.args.value)
    c.args.edges.now c.loop-edge.edge-index c.args.rows.now.items c.loop-edge.rows.items c.loop-edge-test.false c.loop-edge.invariant
