use Rattle.std.proofs.Common.{◌≡◌, List, ℕ, get_or, subst}
use Rattle.std.specs.List.{Contains}
use Rattle.std.proofs.lemmas.List.Elements.{Contains-get_or}
use Rattle.rdf_model.specs.declared.term.Term.{Term}
use Rattle.rdf_model.specs.Numbers.{term_at}
use Rattle.shape_model.specs.Components.{ForEach, found_at}
use Rattle.component_rows.specs.Listed.{Collects, at_nodes}
use Rattle.component_rows.specs.Nodes.{HasNode}
use Rattle.component_rows.specs.Sites.{at_values, site_row}
use Rattle.component_rows.proofs.Collecting.{loop_more, about_each, lists_sorted}
use Rattle.component_rows.proofs.value_test.failing.Goals as goal

pub add_failing-requires : goal.add_failing-requires
add_failing-requires g c =
    let value = get_or c.values-values.result.now c.loop-value.value-index 0 in
    c.recall.ensures.nodes.named value (subst (λ (ns : List ℕ). Contains ns value) c.values-values.ensures (Contains-get_or c.values-values.result.now c.loop-value.value-index 0 c.loop-value-test.true))

pub loop-value-preserved : goal.loop-value-preserved
loop-value-preserved g c =
    let s = c.args.site.now in
    loop_more (λ n r. (g.T.ValueTest.accepts c.args.test.now (term_at s.terms n) → ⊥) × (r ≡ site_row c.args.component s (found_at (term_at s.terms n))))
    c.values-values.result.now c.loop-value.value-index 0 c.loop-value.rows.items c.add_failing.new.rows.items c.loop-value-test.true c.loop-value.invariant c.in_ok-add_failing.ensures

pub returns : goal.returns
returns g c =
    let s = c.args.site.now in
    let P : Term → Type 0 = λ v. g.T.ValueTest.accepts c.args.test.now v → ⊥ in
    lists_sorted (ForEach (at_values s) (site_row c.args.component s) P) c.loop-value.rows.items c.in_ok-sorted_once.field-0.items
    (subst (λ (ns : List ℕ). Collects (ForEach (at_nodes (HasNode s.terms ns)) (site_row c.args.component s) P) c.loop-value.rows.items) c.values-values.ensures
    (about_each s.terms P (site_row c.args.component s) c.values-values.result.now c.loop-value.value-index c.loop-value.rows.items c.loop-value-test.false c.loop-value.invariant))
    c.in_ok-sorted_once.ensures
