use Rattle.std.proofs.Common.{◌≡◌, ◌∙◌, ◌+◌, ◌<◌, [], ◌∷◌, ◌++◌, get_or, length, map, take, ap, arith, sym, false}
use Rattle.std.specs.Prelude.{if◌then◌else◌}
use Rattle.std.proofs.lemmas.List.{get_or_default, take_more, take_all, map-append}
use Rattle.component_rows.specs.Conformance.{yes_at}
use Rattle.component_rows.proofs.Tally.{yes_push, one_most}
use Rattle.component_rows.proofs.yes.count_yes.Goals as goal

pub loop-list-preserved : goal.loop-list-preserved
loop-list-preserved c =
    let at = c.args.at in
    let answers = c.args.answers.now in
    let i = c.loop-list.list-index in
    let list = c.list-item.result in
    let lt = c.loop-list-test.true in
    let within : at < length list.items = c.requires list (i, lt, sym c.list-item.is) in
    let answer : c.index.result.now ≡ get_or list.items at false = c.index.ensures ∙ get_or_default list.items at c.index.result.now false within in
    let taken : take (i + 1) answers ≡ take i answers ++ list ∷ [] = take_more answers i list lt ∙ ap (λ l. take i answers ++ l ∷ []) (sym c.list-item.is) in
    let counted : yes_at at (map (λ a. a.items) (take (i + 1) answers)) ≡ yes_at at (map (λ a. a.items) (take i answers)) + (if get_or list.items at false then 1 else 0) =
    ap (λ ls. yes_at at (map (λ a. a.items) ls)) taken ∙ ap (yes_at at) (map-append (λ a. a.items) (take i answers) (list ∷ [])) ∙ yes_push at (map (λ a. a.items) (take i answers)) list.items in
    let sum = c.with_answer-yes.ensures in
    let most = one_most c.index.result.now in
    let before = c.loop-list.invariant.1 in
    (sum ∙ (λ j. c.loop-list.invariant.0 j + (if answer j then 1 else 0)) ∙ sym counted, omega (arith, sum, most, before))

pub returns : goal.returns
returns c = c.loop-list.invariant.0 ∙ ap (λ lists. yes_at c.args.at (map (λ a. a.items) lists)) (take_all c.loop-list.list-index c.args.answers.now c.loop-list-test.false)
