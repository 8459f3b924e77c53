use Rattle.session_player.proofs.Playing.{never_full}
use Rattle.session_player.proofs.replay.open_next.Goals as goal

pub unreachable-requires : goal.unreachable-requires
unreachable-requires c = never_full _ _ c.requires (rw c.in-Err-SessionsFull.field-0-is at c.in-Err-SessionsFull.ensures)
