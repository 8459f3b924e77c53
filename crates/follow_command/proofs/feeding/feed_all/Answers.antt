use Rattle.std.proofs.Common.{◌≡◌, ◌+◌, ◌∙◌, suc, ℕ, List, take, ap, sym, subst, arith, string_bytes}
use Rattle.std.proofs.Math.Seq.{take-suc}
use Rattle.follow_command.specs.Printing.{FeedsAll}
use Rattle.follow_command.proofs.Printing.{one_more}
use Rattle.follow_command.proofs.feeding.feed_all.Goals as goal

pub loop-number-preserved : goal.loop-number-preserved
loop-number-preserved c =
    let i = c.loop-number.number-index in
    let next : i + 1 ≡ suc i = omega arith in
    let one = ap (λ (k : ℕ). take k c.args.numbers.now) next ∙ take-suc c.args.numbers.now i 0 c.loop-number-test.true in
    subst (λ (ns : List ℕ). FeedsAll c.args.records.now ns c.feed_one.new.follower (string_bytes c.feed_one.new.text)) (sym one)
    (one_more c.args.records.now (take i c.args.numbers.now) _ _ _ _ _ c.loop-number.invariant c.in_ok-feed_one.ensures)
