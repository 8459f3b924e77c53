use Rattle.std.proofs.Common.{subst, sym, List, ℕ, true}
use Rattle.std.specs.Prelude.{◌↔◌}
use Rattle.std.specs.List.{Contains}
use Rattle.std.specs.Ordering.{nat_cmp}
use Rattle.collections.specs.Listings.{IsListing}
use Rattle.rdf_model.specs.declared.look.Look.TheVariants.{Out}
use Rattle.rdf_model.specs.Numbers.{IsFound}
use Rattle.shape_model.specs.declared.component.Component.TheVariants as components
use Rattle.component_rows.specs.Sites.{site_row}
use Rattle.pair_constraints.specs.Focus.{IsKept}
use Rattle.pair_constraints.proofs.Values.{disjoint_rows}
use Rattle.pair_constraints.proofs.sets.disjoint.Goals as goal

pub about_each-requires : goal.about_each-requires
about_each-requires g c = λ n h.
    let kept = subst (λ (ns : List ℕ). Contains ns n) c.deref-2.ensures.value h in
    c.recall.ensures.nodes.named n (subst (λ (values : List ℕ). Contains values n) c.values.ensures ((c.in_ok-common.ensures n).0 kept).0)

pub returns : goal.returns
returns g c =
    let s = c.args.site.now in
    let ids = g.R.Triples.triples c.args.graph.now in
    let listing = subst (λ (others : List ℕ). IsListing nat_cmp (IsFound (Out s.focus s.parameter) ids) others) (sym c.deref.ensures.value) c.in_ok-others.ensures in
    let common = subst (λ (p : List ℕ × List ℕ). (n : ℕ) → Contains p.0 n ↔ (Contains p.1 n × IsKept true c.deref.result.now n)) (λ i. (sym c.deref-2.ensures.value i, c.values.ensures i)) c.in_ok-common.ensures in
    disjoint_rows s c.recall.ensures ids c.requires c.deref.result.now listing
    (site_row components.Disjoint s) c.deref-2.result.now common c.in_ok-about_each.field-0.items c.in_ok-about_each.ensures
