use Rattle.std.proofs.Common.{subst, sym, List, ℕ, false}
use Rattle.std.specs.Prelude.{◌↔◌}
use Rattle.std.specs.List.{Contains}
use Rattle.shape_model.specs.declared.component.Component.TheVariants as components
use Rattle.shape_model.specs.declared.result_row.ResultRow.{ResultRow}
use Rattle.rdf_model.specs.Numbers.{term_at}
use Rattle.shape_model.specs.Components.{RowsOf}
use Rattle.component_rows.specs.Listed.{Collects, untold}
use Rattle.component_rows.specs.Sites.{site_row}
use Rattle.component_rows.proofs.Collecting.{lists_sorted}
use Rattle.pair_constraints.specs.Focus.{IsKept, at_site}
use Rattle.pair_constraints.proofs.Values.{value_bound, equals_rows}
use Rattle.pair_constraints.proofs.sets.equals.Goals as goal

pub about_each-requires : goal.about_each-requires
about_each-requires g c = λ n h.
    let kept = subst (λ (ns : List ℕ). Contains ns n) c.deref-3.ensures.value h in
    c.recall.ensures.nodes.named n (subst (λ (values : List ℕ). Contains values n) c.values-values.ensures ((c.in_ok-alone.ensures n).0 kept).0)

pub about_each-requires-2 : goal.about_each-requires-2
about_each-requires-2 g c = λ n h.
    let kept = subst (λ (ns : List ℕ). Contains ns n) c.deref-4.ensures.value h in
    let value = subst (λ (ns : List ℕ). Contains ns n) c.deref-2.ensures.value ((c.in_ok-missing.ensures n).0 kept).0 in
    value_bound c.args.site.now c.recall.ensures (g.R.Triples.triples c.args.graph.now) c.requires
    c.in_ok-others.others.items c.in_ok-others.ensures n value

pub returns : goal.returns
returns g c =
    let s = c.args.site.now in
    let ids = g.R.Triples.triples c.args.graph.now in
    let alone = subst (λ (p : List ℕ × List ℕ × List ℕ). (n : ℕ) → Contains p.0 n ↔ (Contains p.1 n × IsKept false p.2 n)) (λ i. (sym c.deref-3.ensures.value i, c.values-values.ensures i, c.deref.ensures.value i)) c.in_ok-alone.ensures in
    let missing = subst (λ (p : List ℕ × List ℕ × List ℕ). (n : ℕ) → Contains p.0 n ↔ (Contains p.1 n × IsKept false p.2 n)) (λ i. (sym c.deref-4.ensures.value i, c.deref-2.ensures.value i, c.values-values.ensures i)) c.in_ok-missing.ensures in
    let row = site_row components.Equals s in
    let Row = RowsOf components.Equals (at_site ids s) untold (term_at s.terms s.parameter) row in
    lists_sorted Row c.append.new.self.items c.in_ok-sorted_once.field-0.items
    (subst (λ (rows : List ResultRow). Collects Row rows) (sym c.in_ok-append.ensures.items)
    (equals_rows s c.recall.ensures ids c.requires c.in_ok-others.others.items c.in_ok-others.ensures
    row c.deref-3.result.now c.deref-4.result.now alone missing c.in_ok-rows.rows.items c.in_ok-more.more.items c.in_ok-rows.ensures.members c.in_ok-more.ensures.members))
    c.in_ok-sorted_once.ensures
