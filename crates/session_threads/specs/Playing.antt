-- How far a session has played its file, in what its caller has seen.
use Rattle.std.specs.Prelude.{◌≡◌, ℕ, Option, List, [], ◌∷◌}
use Rattle.store_model.specs.declared.event.Event.{Event}
use Rattle.session_model.specs.declared.command.Command.{Command}
use Rattle.session_model.specs.declared.reply.SessionReply.{SessionReply}
use Rattle.session_model.specs.Sessions.{OpenTransaction, SessionState, up_to_event}
use Rattle.session_laws.specs.Following.{Follows, first_state}
use Rattle.guard_store.specs.Sessions.{StoreSession}
use Rattle.guard_store.specs.Fronts.{SharedStore}
use Rattle.guard_store.specs.Callers.{IsSession}
use Rattle.session_transaction.specs.Transactions.{plain_in}

-- session i came from the beginning of its file to q
abbrev pub HasPlayed : SharedStore → ℕ → List Event → List Command → SessionState → Type 0
HasPlayed store i front file q = Follows store.limits i store.start front (first_state file) q

-- The session did the command, whatever commands follow it and whatever others do, and may go on.
pub record Plays (store : SharedStore) (old new : StoreSession) (c : Command) (replies more : List SessionReply) : Type 0 where
  pub session : IsSession store new
  pub number : new.number ≡ old.number
  pub goes : (file cs : List Command) → HasPlayed store old.number old.pass.known.front file (up_to_event (plain_in old.current) (c ∷ cs) replies)
      → HasPlayed store new.number new.pass.known.front file (up_to_event (plain_in new.current) cs more)

-- The session did all commands of its file; a transaction that is left open is dropped.
pub record PlaysAll (store : SharedStore) (old new : StoreSession) (cs : List Command) (replies : List SessionReply) : Type 0 where
  pub current : Option OpenTransaction
  pub session : IsSession store new
  pub number : new.number ≡ old.number
  pub goes : HasPlayed store old.number old.pass.known.front cs (first_state cs) → HasPlayed store new.number new.pass.known.front cs (record { current = current; commands = []; replies = replies })
