use Rattle.std.proofs.Common.{◌≡◌, ◌+◌, ◌++◌, All, length, vec_len}
use Rattle.std.specs.Vec.Iter.{into_iter_items}
use Rattle.session_threads.specs.Team.{AreNumbered, IsSound, IsStarting, files_of}
use Rattle.session_threads.proofs.team.open_all.Given as goal

abbrev pub invariant-loop-commands : goal.invariant-loop-commands
invariant-loop-commands g l =
    IsSound l.store l.keeper × (l.keeper.opened ≡ length l.yielded) × (l.keeper.pass.spare + length l.yielded ≡ 64) × (vec_len l.players ≡ length l.yielded) × All (IsStarting l.store) l.players.items × AreNumbered l.players.items
    × (files_of l.players.items ≡ l.yielded) × (l.yielded ++ into_iter_items l.commands-iterator ≡ l.fn.files.items)
