use Rattle.std.proofs.Common.{◌≡◌}
use Rattle.std.specs.Vec.Iter.{into_iter_items}
use Rattle.session_model.specs.Sessions.{up_to_event}
use Rattle.session_laws.specs.Following.{first_state}
use Rattle.guard_store.specs.Callers.{IsSession}
use Rattle.session_transaction.specs.Transactions.{plain_in}
use Rattle.session_threads.specs.Playing.{HasPlayed}
use Rattle.session_threads.proofs.play.play_in.Given as goal

abbrev pub invariant-loop-command : goal.invariant-loop-command
invariant-loop-command g l = record {
  session : IsSession l.store l.session;
  number : l.session.number ≡ l.fn.session.number;
  goes : HasPlayed l.store l.fn.session.number l.fn.session.pass.known.front l.fn.commands (first_state l.fn.commands)
      → HasPlayed l.store l.session.number l.session.pass.known.front l.fn.commands (up_to_event (plain_in l.session.current) (into_iter_items l.command-iterator) l.replies);
}
