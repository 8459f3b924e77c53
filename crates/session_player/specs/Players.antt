-- Sessions that are played event by event, beside each other.
use Rattle.std.specs.Prelude.{◌≡◌, ◌≢◌, ℕ, ◌+◌, ◌≤◌, Bool, true, false, Option, Some, None, List, [], ◌∷◌, ◌++◌, length, map, MatchBool}
use Rattle.std.specs.List.{AllByRecursion}
use Rattle.store_model.specs.Store.{RecordedStore, HasChange}
use Rattle.session_model.specs.declared.command.Command.{Command}
use Rattle.session_model.specs.declared.command.Command.TheVariants.{Commit}
use Rattle.session_model.specs.declared.reply.SessionReply.{SessionReply}
use Rattle.session_model.specs.Sessions.{OpenTransaction, SessionState, World, local_answer, up_to_event, world, RunsInOrder}
use Rattle.commit_core.specs.declared.checked.CheckedNet.{CheckedNet}
use Rattle.session_transaction.specs.Checks.{KeepsIn}
use Rattle.session_player.specs.Progress.{Advances, order_of}
use Rattle.session_player.specs.Ready.{IsCurrentIn, Performs}
use Rattle.session_player.specs.Histories.{BreaksOff}

-- A session that is played: the commands that are left, its open transaction, whether the transaction's commit has the
-- newest version already, what is kept of a check of it, and what the session was answered.
pub record Player : Type 0 where
  pub commands : List Command
  pub current : Option OpenTransaction
  pub head_taken : Bool
  pub checked : Option CheckedNet
  pub replies : List SessionReply

abbrev pub with_head : Option OpenTransaction → Option OpenTransaction
with_head None = None
with_head (Some w) = Some (record w { head_taken = true })

abbrev pub held : Bool → Option OpenTransaction → Option OpenTransaction
held false w = w
held true w = with_head w

-- the session that it plays: the commands that are no events count as done as soon as they are next
abbrev pub state_of : Player → SessionState
state_of p = up_to_event (held p.head_taken p.current) p.commands p.replies

-- the commit of a transaction that changes something is next
abbrev pub IsCommitNext : Option OpenTransaction → List Command → Type 0
IsCommitNext None cs = ⊥
IsCommitNext (Some w) [] = ⊥
IsCommitNext (Some w) (c ∷ cs) = (c ≡ Commit) × HasChange w.transaction.net w.transaction.staged

abbrev pub IsHeld : Bool → Option OpenTransaction → List Command → Type 0
IsHeld false w cs = Unit {0}
IsHeld true w cs = IsCommitNext w cs

-- what is kept of a check is a verdict of the store's history, once the commit has the newest version
abbrev pub KeepsCheck : Bool → RecordedStore → Option OpenTransaction → Option CheckedNet → Type 0
KeepsCheck false s w o = Unit {0}
KeepsCheck true s None o = Unit {0}
KeepsCheck true s (Some w) o = KeepsIn s.limits s.start s.history w.transaction.net o

-- Its transaction is one of this store. Where its commit has the newest version, that commit is next, and may hand in what is
-- kept of the check.
pub record MayGoOn (s : RecordedStore) (p : Player) : Type 0 where
  pub current : IsCurrentIn s p.current
  pub held : IsHeld p.head_taken p.current p.commands
  pub kept : KeepsCheck p.head_taken s p.current p.checked

-- whether the command is an event of the store
abbrev pub IsEvent : Bool → Option OpenTransaction → Command → Type 0
IsEvent event w c = MatchBool event (local_answer w c ≡ None) (local_answer w c ≢ None)

-- before its first command
abbrev pub new_player : List Command → Player
new_player cs = record { commands = cs; current = None; head_taken = false; checked = None; replies = [] }

-- the next command is an event
abbrev pub IsAtEvent : Option OpenTransaction → List Command → Type 0
IsAtEvent w [] = Unit {0}
IsAtEvent w (c ∷ cs) = local_answer w c ≡ None

-- the player did the commands that are no events; the store and the session that is played are the same
pub record Settles (s : RecordedStore) (p q : Player) : Type 0 where
  pub ready : MayGoOn s q
  pub state : state_of q ≡ state_of p
  pub at_event : IsAtEvent q.current q.commands

-- session i's player did its first command
pub record DoesFirst (i : ℕ) (old new : RecordedStore) (p q : Player) : Type 0 where
  pub command : Command
  pub commands : p.commands ≡ command ∷ q.commands
  pub performs : Performs i old new p.current q.current command p.replies q.replies

-- session i's player took its next event
pub record TakesEvent (i : ℕ) (old new : RecordedStore) (p q : Player) : Type 0 where
  pub ready : MayGoOn new q
  pub advances : Advances i old new (state_of p) (state_of q)
  pub order : order_of new.history ≡ order_of old.history ++ i ∷ []

-- the replies of the session that it plays, where that has no event left
abbrev pub Finishes : Player → Option (List SessionReply) → Type 0
Finishes p None = (state_of p).commands ≢ []
Finishes p (Some all) = ((state_of p).commands ≡ []) × (all ≡ (state_of p).replies)

abbrev pub states_of : List Player → List SessionState
states_of players = map state_of players

-- The sessions took these places, one after another, and may go on.
pub record Plays (order : List ℕ) (old new : RecordedStore) (ps qs : List Player) : Type 0 where
  pub ready : AllByRecursion (MayGoOn new) qs
  pub count : length qs ≡ length ps
  pub limits : new.limits ≡ old.limits
  pub history : order_of new.history ≡ order_of old.history ++ order
  pub runs : RunsInOrder old.limits (world old.state (states_of ps)) order None (world new.state (states_of qs))

-- where the players may go on, and no session without a file was given out
pub record AreReady (s : RecordedStore) (ps : List Player) : Type 0 where
  pub ready : AllByRecursion (MayGoOn s) ps
  pub few : length ps ≤ 64
  pub opened : s.state.opened ≤ length ps

-- place k is the first that isn't valid, from where the sessions are now
abbrev pub StopsAt : RecordedStore → List Player → List (Option ℕ) → ℕ → Type 0
StopsAt s ps places k = (order : List ℕ) × (rest : List (Option ℕ)) × (m : World) × (places ≡ map Some order ++ rest) × RunsInOrder s.limits (world s.state (states_of ps)) order None m × BreaksOff m rest × (k ≡ length order + 1)

-- the places were taken, all of them
pub record PlaysAll (places : List (Option ℕ)) (old new : RecordedStore) (ps qs : List Player) : Type 0 where
  pub order : List ℕ
  pub taken : places ≡ map Some order
  pub plays : Plays order old new ps qs
  pub opened : new.state.opened ≤ length qs

-- no session has an event left, and they were answered so
abbrev pub EndsAll : List SessionState → List (List SessionReply) → Type 0
EndsAll sessions all = AllByRecursion (λ s. s.commands ≡ []) sessions × (all ≡ map (λ s. s.replies) sessions)
