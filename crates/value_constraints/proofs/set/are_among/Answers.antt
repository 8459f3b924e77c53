use Rattle.value_constraints.proofs.Membership.{one_more, all_answers}
use Rattle.value_constraints.proofs.set.are_among.Goals as goal

pub loop-number-preserved : goal.loop-number-preserved
loop-number-preserved c =
    one_more c.args.numbers.now c.args.members.now c.loop-number.answers.items c.push.new.self.items c.loop-number.number-index c.is_among.result
    c.in_ok-push.ensures.items c.loop-number.invariant c.is_among.ensures

pub returns : goal.returns
returns c =
    all_answers c.args.numbers.now c.args.members.now c.loop-number.answers.items c.loop-number.number-index
    c.loop-number-test.false c.loop-number.auto.number-index-end c.loop-number.invariant
