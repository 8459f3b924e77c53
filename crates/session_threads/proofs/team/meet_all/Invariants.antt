use Rattle.std.proofs.Common.{◌≡◌, ◌+◌, All, length, vec_len}
use Rattle.guard_store.specs.Callers.{IsKeeper}
use Rattle.session_threads.specs.Team.{HasLock}
use Rattle.session_threads.proofs.team.meet_all.Given as goal

abbrev pub invariant-loop-player : goal.invariant-loop-player
invariant-loop-player g l = IsKeeper l.store l.keeper × (l.keeper.pass.spare + vec_len l.players ≡ l.fn.keeper.pass.spare + vec_len l.fn.players) × All (HasLock l.store) l.players.items

abbrev pub decreases-loop-player : goal.decreases-loop-player
decreases-loop-player g l = length l.players.items
