use Rattle.std.proofs.Common.{◌≡◌, length, arith}
use Rattle.reference_totals.proofs.Asked.{all_waiting, waiting_next, waiting_done}
use Rattle.reference_totals.proofs.rounds.ask_all.Goals as goal

pub loop-waiting-init : goal.loop-waiting-init
loop-waiting-init c = all_waiting c.args.places.now c.args.most c.args.known.now c.args.indices c.requires.none c.requires.known c.requires.indices

pub ask_each-requires : goal.ask_each-requires
ask_each-requires c = record { most = c.requires.most; known = c.loop-waiting.invariant.within }

pub returns-then-len : goal.returns-then-len
returns-then-len c =
    let asked = rw c.as_slice.ensures at c.in_ok-left.ensures in
    let all : length c.in_ok-left.left ≡ length c.loop-waiting.waiting = omega (arith, c.len.ensures, c.len-in-loop-waiting.ensures, c.if-len.true) in
    waiting_done c.args.places.now c.args.most c.loop-waiting.known c.ask_each.new.known c.loop-waiting.waiting c.in_ok-left.left c.loop-waiting.invariant asked all

pub loop-waiting-preserved : goal.loop-waiting-preserved
loop-waiting-preserved c =
    let asked = rw c.as_slice.ensures at c.in_ok-left.ensures in
    waiting_next c.args.places.now c.args.most c.loop-waiting.known c.ask_each.new.known c.loop-waiting.waiting c.in_ok-left.left c.loop-waiting.invariant asked
