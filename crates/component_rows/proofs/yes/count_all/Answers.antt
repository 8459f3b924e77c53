use Rattle.std.proofs.Common.{◌≡◌, ◌∙◌, ℕ, ◌+◌, false, get_or, take, ap, arith, sym}
use Rattle.std.specs.Prelude.{if◌then◌else◌}
use Rattle.std.proofs.lemmas.List.{take_more, take_all}
use Rattle.component_rows.specs.Conformance.{how_many}
use Rattle.component_rows.proofs.Tally.{more_yes, one_most}
use Rattle.component_rows.proofs.yes.count_all.Goals as goal

pub loop-answer-preserved : goal.loop-answer-preserved
loop-answer-preserved c =
    let answers = c.args.answers.now in
    let i = c.loop-answer.answer-index in
    let answer = get_or answers i false in
    let counted : how_many (take (i + 1) answers) ≡ how_many (take i answers) + (if answer then 1 else 0) = ap how_many (take_more answers i false c.loop-answer-test.true) ∙ more_yes (take i answers) answer in
    let sum = c.with_answer-yes.ensures in
    let most = one_most answer in
    let before = c.loop-answer.invariant.1 in
    (sum ∙ ap (λ (n : ℕ). n + (if answer then 1 else 0)) c.loop-answer.invariant.0 ∙ sym counted, omega (arith, sum, most, before))

pub returns : goal.returns
returns c = c.loop-answer.invariant.0 ∙ ap how_many (take_all c.loop-answer.answer-index c.args.answers.now c.loop-answer-test.false)
