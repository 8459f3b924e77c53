use Rattle.std.proofs.Common.{subst, sym, List, ℕ}
use Rattle.std.specs.Ordering.{nat_cmp}
use Rattle.collections.specs.Listings.{IsListing}
use Rattle.rdf_model.specs.declared.look.Look.TheVariants.{Out}
use Rattle.rdf_model.specs.Numbers.{IsFound}
use Rattle.shape_model.specs.declared.component.Component.TheVariants as components
use Rattle.component_rows.specs.Sites.{site_row}
use Rattle.pair_constraints.proofs.Values.{value_bound, at_most_rows}
use Rattle.pair_constraints.proofs.order.less_than_or_equals.Goals as goal

pub unordered-requires : goal.unordered-requires
unordered-requires g c =
    let s = c.args.site.now in
    let ids = g.R.Triples.triples c.args.graph.now in
    let listing = subst (λ (others : List ℕ). IsListing nat_cmp (IsFound (Out s.focus s.parameter) ids) others) (sym c.deref.ensures.value) c.in_ok-others.ensures in
    value_bound s c.recall.ensures ids c.requires c.deref.result.now listing

pub returns : goal.returns
returns g c =
    let s = c.args.site.now in
    let ids = g.R.Triples.triples c.args.graph.now in
    let listing = subst (λ (others : List ℕ). IsListing nat_cmp (IsFound (Out s.focus s.parameter) ids) others) (sym c.deref.ensures.value) c.in_ok-others.ensures in
    at_most_rows s c.recall.ensures ids c.requires c.deref.result.now listing
    (site_row components.LessThanOrEquals s) c.in_ok-unordered.field-0.items c.in_ok-unordered.ensures
