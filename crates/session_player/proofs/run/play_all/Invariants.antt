use Rattle.std.proofs.Common.{◌≡◌, ◌++◌, length}
use Rattle.std.specs.Vec.Iter.{into_iter_items}
use Rattle.store_model.specs.Store.{empty_store}
use Rattle.session_player.specs.Progress.{HasRun}
use Rattle.session_player.proofs.run.play_all.Given as goal

abbrev pub invariant-loop-commands : goal.invariant-loop-commands
invariant-loop-commands g l = record {
  session : l.session ≡ length l.yielded;
  rest : l.yielded ++ into_iter_items l.commands-iterator ≡ l.fn.files.items;
  so_far : HasRun l.fn.files.items l.fn.core.limits empty_store l.core (length l.yielded) l.all.items;
}
