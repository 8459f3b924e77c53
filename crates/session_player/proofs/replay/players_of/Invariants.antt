use Rattle.std.proofs.Common.{◌≡◌, ◌++◌, map}
use Rattle.std.specs.Vec.Iter.{into_iter_items}
use Rattle.session_player.specs.Players.{new_player}
use Rattle.session_player.proofs.replay.players_of.Given as goal

abbrev pub invariant-loop-commands : goal.invariant-loop-commands
invariant-loop-commands l = record {
  players : l.players.items ≡ map new_player l.yielded;
  rest : l.yielded ++ into_iter_items l.commands-iterator ≡ l.fn.files.items;
}
