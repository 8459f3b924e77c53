use Rattle.std.proofs.Common.{arith}
use Rattle.session_player.proofs.Playing.{never_full}
use Rattle.session_player.proofs.Advancing.{OpensSessions-none, OpensSessions-next}
use Rattle.session_player.proofs.run.open_all.Goals as goal

pub loop-i-init : goal.loop-i-init
loop-i-init c = OpensSessions-none _

pub loop-i-preserved : goal.loop-i-preserved
loop-i-preserved c = OpensSessions-next _ _ _ _ _ c.loop-i.invariant c.in-Ok.ensures

pub unreachable-requires : goal.unreachable-requires
unreachable-requires c =
    let full = rw c.in-Err-SessionsFull.field-0-is at c.in-Err-SessionsFull.ensures in
    never_full _ _ (omega (arith, c.loop-i.invariant.opened)) full
