use Rattle.std.proofs.Common.{None, []}
use Rattle.std.specs.Vec.Iter.{into_iter_items}
use Rattle.session_model.specs.Sessions.{up_to_event}
use Rattle.session_transaction.specs.Transactions.{plain_in}
use Rattle.session_player.specs.Progress.{Advances}
use Rattle.session_player.specs.Ready.{IsReady}
use Rattle.session_player.proofs.run.perform_all.Given as goal

abbrev pub invariant-loop-command : goal.invariant-loop-command
invariant-loop-command g l = record {
  ready : IsReady l.core l.session (plain_in l.current);
  advances : Advances l.session l.fn.core l.core (up_to_event None l.fn.commands []) (up_to_event (plain_in l.current) (into_iter_items l.command-iterator) l.replies);
}
