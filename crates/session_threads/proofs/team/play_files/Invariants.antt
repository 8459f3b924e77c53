use Rattle.std.proofs.Common.{◌≡◌, ◌+◌, All, length, reverse, vec_len}
use Rattle.session_threads.specs.Team.{AreNumbered, HasEnded, IsSound, Met}
use Rattle.session_threads.proofs.team.play_files.Given as goal

abbrev pub invariant-loop-player : goal.invariant-loop-player
invariant-loop-player g l =
    IsSound l.store l.keeper × (l.keeper.opened ≡ length l.fn.files.items) × (l.keeper.pass.spare + vec_len l.players ≡ 64) × All (HasEnded l.store l.fn.files.items) l.players.items × AreNumbered l.players.items
    × Met l.fn.files.items l.store (vec_len l.players) l.keeper.pass (reverse l.all.items)

abbrev pub decreases-loop-player : goal.decreases-loop-player
decreases-loop-player g l = length l.players.items
