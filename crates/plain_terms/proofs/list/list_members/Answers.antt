use Rattle.std.proofs.Common.{arith}
use Rattle.shape_syntax.proofs.Lists.{list_from, no_broken_list, no_long_list, segment_push}
use Rattle.plain_terms.proofs.Lists.{is_cell, no_cell}
use Rattle.plain_terms.proofs.list.list_members.Goals as goal

pub returns-then-branch : goal.returns-then-branch
returns-then-branch c = list_from c.args.graph.now c.args.head.now c.loop-alloc.members c.loop-alloc.node c.loop-alloc.invariant (c.in_ok-is_list_end.ensures.0 c.if-branch.true)

pub returns-in-None : goal.returns-in-None
returns-in-None c = λ members list.
    no_broken_list c.args.graph.now c.args.head.now c.loop-alloc.members c.loop-alloc.node members c.loop-alloc.invariant (λ e. let k = c.in_ok-is_list_end.ensures.1 e in cc (k, c.if-branch.false))
    (no_cell c.args.graph.now c.loop-alloc.node c.in_ok-member.field-0 c.in-None.is c.in_ok-member.ensures) list

pub loop-alloc-preserved : goal.loop-alloc-preserved
loop-alloc-preserved c =
    rw c.in_ok-push-in-Some.ensures.ok (segment_push c.args.graph.now c.args.head.now c.loop-alloc.members c.loop-alloc.node c.in-Some.member c.in-Some.rest c.loop-alloc.invariant
    (is_cell c.args.graph.now c.loop-alloc.node c.in_ok-member.field-0 (c.in-Some.member, c.in-Some.rest) c.in-Some.is c.in_ok-member.ensures))

pub returns : goal.returns
returns c = λ members list. no_long_list c.args.graph.now c.args.head.now c.loop-alloc.members c.loop-alloc.node members c.loop-alloc.invariant (omega (arith, c.len.ensures)) list
