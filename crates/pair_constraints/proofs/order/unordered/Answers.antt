use Rattle.std.proofs.Common.{List, ℕ, get_or, subst}
use Rattle.std.specs.List.{Contains}
use Rattle.std.proofs.lemmas.List.Elements.{Contains-get_or}
use Rattle.component_rows.specs.Listed.{Collects}
use Rattle.component_rows.proofs.Collecting.{lists_sorted, loop_more, loop_all}
use Rattle.component_rows.specs.Sites.{site_row}
use Rattle.pair_constraints.specs.Focus.{Pairs, PairsAt}
use Rattle.pair_constraints.proofs.order.unordered.Goals as goal

pub add_pairs-requires-clause-value : goal.add_pairs-requires-clause-value
add_pairs-requires-clause-value g c =
    let value = get_or c.values-values.result.now c.loop-value.value-index 0 in
    c.recall.ensures.nodes.named value (subst (λ (values : List ℕ). Contains values value) c.values-values.ensures (Contains-get_or c.values-values.result.now c.loop-value.value-index 0 c.loop-value-test.true))

pub loop-value-preserved : goal.loop-value-preserved
loop-value-preserved g c =
    loop_more (PairsAt c.args.site.now.terms (site_row c.args.component c.args.site.now) c.args.comparison c.args.others.now)
    c.values-values.result.now c.loop-value.value-index 0 c.loop-value.rows.items c.add_pairs.new.rows.items c.loop-value-test.true c.loop-value.invariant c.in_ok-add_pairs.ensures

pub returns : goal.returns
returns g c =
    lists_sorted (Pairs c.args.site.now.terms (site_row c.args.component c.args.site.now) c.args.comparison c.args.site.now.values c.args.others.now) c.loop-value.rows.items c.in_ok-sorted_once.field-0.items
    (subst (λ (values : List ℕ). Collects (Pairs c.args.site.now.terms (site_row c.args.component c.args.site.now) c.args.comparison values c.args.others.now) c.loop-value.rows.items) c.values-values.ensures
    (loop_all (PairsAt c.args.site.now.terms (site_row c.args.component c.args.site.now) c.args.comparison c.args.others.now)
    c.values-values.result.now c.loop-value.value-index c.loop-value.rows.items c.loop-value-test.false c.loop-value.invariant))
    c.in_ok-sorted_once.ensures
