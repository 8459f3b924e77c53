use Rattle.std.proofs.Common.{ap}
use Rattle.session_player.proofs.Playing.{performs_begin}
use Rattle.session_player.proofs.perform.begin.Goals as goal

pub returns : goal.returns
returns c = rw (c.in_default.is, c.new.ensures) (performs_begin _ _ _ _ _ _ _ _ c.requires.opened c.in_ok-snap.ensures.step (ap (λ n. n.graph) c.in_ok-snap.ensures.snapshot) (ap (λ n. n.shapes) c.in_ok-snap.ensures.snapshot) (rw c.number.ensures at c.in_ok-push-2.ensures.ok))
