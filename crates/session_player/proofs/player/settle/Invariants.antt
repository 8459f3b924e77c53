use Rattle.std.proofs.Common.{◌≡◌, false, length}
use Rattle.session_player.specs.Players.{MayGoOn, state_of}
use Rattle.session_player.proofs.player.settle.Given as goal

abbrev pub invariant-loop-command : goal.invariant-loop-command
invariant-loop-command g l = record {
  same : l.core ≡ l.fn.core;
  ready : MayGoOn l.core l.player;
  state : state_of l.player ≡ state_of l.fn.player;
  free : l.player.head_taken ≡ false;
}

abbrev pub decreases-loop-command : goal.decreases-loop-command
decreases-loop-command g l = length l.player.commands
