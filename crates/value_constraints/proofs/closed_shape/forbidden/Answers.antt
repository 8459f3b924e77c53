use Rattle.std.proofs.Common.{get_or, subst, sym, List, ℕ}
use Rattle.std.specs.List.{Contains}
use Rattle.std.proofs.lemmas.List.Elements.{Contains-get_or}
use Rattle.collections.specs.Listings.{IsListing}
use Rattle.collections.specs.Pairs.{pair_cmp}
use Rattle.rdf_model.specs.Numbers.{IsEdge}
use Rattle.shape_model.specs.declared.component.Component.TheVariants as components
use Rattle.component_rows.specs.Listed.{Collects}
use Rattle.component_rows.specs.Sites.{site_row}
use Rattle.component_rows.proofs.Collecting.{loop_all, loop_more}
use Rattle.value_constraints.specs.Closing.{ForbiddenOf, ForbiddenOfSome}
use Rattle.value_constraints.proofs.Closings.{edges_named, of_listed}
use Rattle.value_constraints.proofs.closed_shape.forbidden.Goals as goal

pub add_edges-requires-clause-value : goal.add_edges-requires-clause-value
add_edges-requires-clause-value g c =
    let values = c.values-values.result.now in
    let value = get_or values c.loop-value.value-index 0 in
    c.recall.ensures.nodes.named value (subst (λ (ns : List ℕ). Contains ns value) c.values-values.ensures (Contains-get_or values c.loop-value.value-index 0 c.loop-value-test.true))

pub add_edges-requires-clause-edges : goal.add_edges-requires-clause-edges
add_edges-requires-clause-edges g c =
    let ids = g.R.Triples.triples c.args.graph.now in
    let value = get_or c.values-values.result.now c.loop-value.value-index 0 in
    let listing = subst (λ (edges : List (ℕ × ℕ)). IsListing pair_cmp (IsEdge ids value) edges) (sym c.deref.ensures.value) c.in_ok-edges.ensures in
    edges_named c.args.site.now.terms c.recall.ensures.numbering ids c.requires.graph value c.deref.result.now listing

pub loop-value-preserved : goal.loop-value-preserved
loop-value-preserved g c =
    let s = c.args.site.now in
    let ids = g.R.Triples.triples c.args.graph.now in
    let values = c.values-values.result.now in
    let value = get_or values c.loop-value.value-index 0 in
    let row = site_row components.Closed s in
    let listing = subst (λ (edges : List (ℕ × ℕ)). IsListing pair_cmp (IsEdge ids value) edges) (sym c.deref.ensures.value) c.in_ok-edges.ensures in
    loop_more (ForbiddenOf s.terms ids row c.args.allowed.now) values c.loop-value.value-index 0 c.loop-value.rows.items c.add_edges.new.rows.items c.loop-value-test.true c.loop-value.invariant
    (of_listed s.terms c.recall.ensures.numbering ids c.requires.graph row c.args.allowed.now s.values c.requires.allowed c.recall.ensures.nodes value c.deref.result.now c.loop-value.rows.items c.add_edges.new.rows.items listing c.in_ok-add_edges.ensures)

pub returns : goal.returns
returns g c =
    let s = c.args.site.now in
    let ids = g.R.Triples.triples c.args.graph.now in
    let row = site_row components.Closed s in
    subst (λ (ns : List ℕ). Collects (ForbiddenOfSome s.terms ids row c.args.allowed.now ns) c.loop-value.rows.items) c.values-values.ensures
    (loop_all (ForbiddenOf s.terms ids row c.args.allowed.now) c.values-values.result.now c.loop-value.value-index c.loop-value.rows.items c.loop-value-test.false c.loop-value.invariant)
