use Rattle.std.proofs.Common.{arith}
use Rattle.shape_syntax.proofs.Lists.{list_from, no_broken_list, no_long_list, segment_push}
use Rattle.shape_syntax.proofs.list.list_members.Goals as goal

pub returns-then-is_list_end : goal.returns-then-is_list_end
returns-then-is_list_end c = list_from c.args.graph.now c.args.head.now c.loop-node.members c.loop-node.node.now c.loop-node.invariant (c.is_list_end.ensures.0 c.if-is_list_end.true)

pub returns-in_default : goal.returns-in_default
returns-in_default c = λ members list.
    no_broken_list c.args.graph.now c.args.head.now c.loop-node.members c.loop-node.node.now members c.loop-node.invariant (λ e. let k = c.is_list_end.ensures.1 e in cc) (λ m k h. c.in_default.ensures m k h) list

pub loop-node-preserved : goal.loop-node-preserved
loop-node-preserved c =
    rw (c.in_ok-push.ensures.ok, c.in_ok-clone.ensures.cases) (segment_push c.args.graph.now c.args.head.now c.loop-node.members c.loop-node.node.now c.in-Some.member.now c.in-Some.rest.now c.loop-node.invariant c.in-Some.ensures)

pub returns : goal.returns
returns c = λ members list. no_long_list c.args.graph.now c.args.head.now c.loop-node.members c.loop-node.node.now members c.loop-node.invariant (omega (arith, c.len.ensures)) list
