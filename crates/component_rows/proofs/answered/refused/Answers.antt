use Rattle.std.proofs.Common.{◌≤◌, List, ℕ, get_or, length, subst}
use Rattle.std.specs.List.{Contains}
use Rattle.std.proofs.lemmas.List.Elements.{Contains-get_or}
use Rattle.shape_model.specs.Components.{ForEach}
use Rattle.component_rows.specs.Listed.{Collects}
use Rattle.component_rows.specs.Nodes.{IsAnswered}
use Rattle.component_rows.specs.Sites.{at_values, site_row}
use Rattle.component_rows.proofs.Answering.{BeforePlace, place_more, all_places}
use Rattle.component_rows.proofs.Collecting.{lists_sorted}
use Rattle.component_rows.proofs.answered.refused.Goals as goal

pub add_refused-requires : goal.add_refused-requires
add_refused-requires g c =
    let value = get_or c.values-values.result.now c.loop-at.at 0 in
    c.recall.ensures.nodes.named value (subst (λ (ns : List ℕ). Contains ns value) c.values-values.ensures (Contains-get_or c.values-values.result.now c.loop-at.at 0 c.loop-at-test.true))

pub loop-at-preserved : goal.loop-at-preserved
loop-at-preserved g c =
    place_more c.args.site.now.terms c.values-values.result.now c.args.answers.now (site_row c.args.component c.args.site.now)
    c.loop-at.at c.loop-at.rows.items c.add_refused.new.rows.items c.loop-at.invariant c.in_ok-add_refused.ensures

pub returns : goal.returns
returns g c =
    let s = c.args.site.now in
    let row = site_row c.args.component s in
    let Before : List ℕ → Type 0 = λ ns. Collects (BeforePlace s.terms ns c.args.answers.now row c.loop-at.at) c.loop-at.rows.items in
    lists_sorted (ForEach (at_values s) row (λ v. IsAnswered s.terms s.values c.args.answers.now v → ⊥)) c.loop-at.rows.items c.in_ok-sorted_once.field-0.items
    (all_places s.terms c.recall.ensures.numbering s.values c.recall.ensures.nodes c.args.answers.now row c.loop-at.at c.loop-at.rows.items
    (subst (λ (ns : List ℕ). length ns ≤ c.loop-at.at) c.values-values.ensures c.loop-at-test.false)
    (subst (λ (ns : List ℕ). c.loop-at.at ≤ length ns) c.values-values.ensures c.loop-at.auto.at-end)
    (subst Before c.values-values.ensures c.loop-at.invariant))
    c.in_ok-sorted_once.ensures
