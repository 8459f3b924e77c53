use Rattle.std.proofs.Common.{◌≡◌, length, refl, arith}
use Rattle.shape_references.proofs.Asked.{all_waiting, waiting_next, waiting_done}
use Rattle.shape_references.proofs.leading.ask_all.Goals as goal

pub loop-waiting-init : goal.loop-waiting-init
loop-waiting-init c = all_waiting c.args.graph.now c.args.goal.now c.new-known.result.keys c.args.nodes c.args.nodes c.new-known.ensures.empty refl c.requires.nodes

pub returns-then-len : goal.returns-then-len
returns-then-len c =
    let asked = rw c.as_slice.ensures at c.in_ok-left.ensures in
    let all : length c.in_ok-left.left ≡ length c.loop-waiting.waiting = omega (arith, c.len.ensures, c.len-in-loop-waiting.ensures, c.if-len.true) in
    let same = waiting_done c.args.graph.now c.args.goal.now c.loop-waiting.known.keys c.ask_each.new.known.keys c.loop-waiting.waiting c.in_ok-left.left c.loop-waiting.invariant asked all in
    (λ h. same.0 (c.is_in.ensures.0 h), λ h. c.is_in.ensures.1 (same.1 h))

pub loop-waiting-preserved : goal.loop-waiting-preserved
loop-waiting-preserved c =
    let asked = rw c.as_slice.ensures at c.in_ok-left.ensures in
    waiting_next c.args.graph.now c.args.goal.now c.loop-waiting.known.keys c.ask_each.new.known.keys c.loop-waiting.waiting c.in_ok-left.left c.loop-waiting.invariant asked
