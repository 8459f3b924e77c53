use Rattle.std.proofs.Common.{◌≡◌, ◌++◌, length}
use Rattle.std.specs.Vec.Iter.{into_iter_items}
use Rattle.session_player.specs.Players.{EndsAll, states_of}
use Rattle.session_player.proofs.replay.finish_all.Given as goal

abbrev pub invariant-loop-player : goal.invariant-loop-player
invariant-loop-player g l = record {
  session : l.session ≡ length l.yielded;
  same : l.core ≡ l.fn.core;
  rest : l.yielded ++ into_iter_items l.player-iterator ≡ l.fn.players.items;
  ends : EndsAll (states_of l.yielded) l.all.items;
}
