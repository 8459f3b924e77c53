use Rattle.std.proofs.Common.{◌≡◌, take}
use Rattle.session_player.specs.Players.{PlaysAll}
use Rattle.session_player.proofs.replay.play_places.Given as goal

abbrev pub invariant-loop-i : goal.invariant-loop-i
invariant-loop-i g l = record {
  so_far : PlaysAll (take l.i l.places) l.fn.core l.core l.fn.players l.players;
  opened : l.opened ≡ l.core.state.opened;
}
