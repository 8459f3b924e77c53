-- When a session may go on, and what a command does to it.
use Rattle.std.specs.Prelude.{◌≡◌, ℕ, Bool, true, false, Option, Some, None, List, [], ◌∷◌, ◌++◌}
use Rattle.rdf_model.specs.declared.triple.Triple.{Triple}
use Rattle.store_model.specs.declared.event.Action.TheVariants as actions
use Rattle.store_model.specs.declared.event.NameKind.{NameKind}
use Rattle.store_model.specs.declared.event.Reply.{Reply}
use Rattle.store_model.specs.declared.event.Reply.TheVariants as replies
use Rattle.store_model.specs.declared.commit.Transaction.{Transaction}
use Rattle.store_model.specs.declared.commit.Verdict.{Verdict}
use Rattle.session_model.specs.declared.command.Command.{Command}
use Rattle.session_model.specs.declared.command.Command.TheVariants.{Commit, Begin, Add, BadAdd, Remove, BadRemove, Attach, BadAttach, Shapes, BadShapes, BrokenShapes, RefusedPattern, Find, Select, BadSelect, Report, Abort}
use Rattle.session_model.specs.declared.reply.SessionReply.{SessionReply}
use Rattle.session_model.specs.declared.reply.SessionReply.TheVariants.{UnknownNode, FullTerms}
use Rattle.store_model.specs.Logs.{is_fault}
use Rattle.store_model.specs.Store.{RecordedStore, TakesStep, IsOpened}
use Rattle.session_model.specs.Sessions.{OpenTransaction, LocalAnswer, local_answer, after_reply, parts_of, up_to_event}
use Rattle.session_transaction.specs.Transactions.{FitsState}
use Rattle.session_player.specs.Progress.{Advances, order_of}

-- the transaction is one of this store, and its commit hasn't taken the newest version
pub record IsCurrent (s : RecordedStore) (w : OpenTransaction) : Type 0 where
  pub fits : FitsState w.transaction s.state
  pub head_taken : w.head_taken ≡ false

abbrev pub IsCurrentIn : RecordedStore → Option OpenTransaction → Type 0
IsCurrentIn s None = Unit {0}
IsCurrentIn s (Some w) = IsCurrent s w

pub record IsReady (s : RecordedStore) (session : ℕ) (w : Option OpenTransaction) : Type 0 where
  pub opened : IsOpened s.state session
  pub current : IsCurrentIn s w

-- what a session is told where the terms of its block weren't named
abbrev pub IsNamingRefusal : Reply → SessionReply → Type 0
IsNamingRefusal (replies.Unknown node) told = told ≡ UnknownNode node
IsNamingRefusal (replies.Full n) told = told ≡ FullTerms
IsNamingRefusal r told = ⊥

-- the terms of the triples of a block of this kind were named; or they weren't, and the session is told so
abbrev pub NamesAll : Option SessionReply → RecordedStore → RecordedStore → ℕ → NameKind → List Triple → Type 0
NamesAll None old new i kind ts = TakesStep old new (record { session = i; action = actions.Name kind (parts_of ts); reply = replies.Named })
NamesAll (Some told) old new i kind ts = (r : Reply) × IsNamingRefusal r told × TakesStep old new (record { session = i; action = actions.Name kind (parts_of ts); reply = r })

-- the session has the newest version for its commit
pub record TakesHead (i : ℕ) (old new : RecordedStore) : Type 0 where
  pub number : ℕ
  pub step : TakesStep old new (record { session = i; action = actions.Head; reply = replies.Version number })

-- The store answered the commit of the transaction, with the verdict of a check or without one, by no fault of a log, and the
-- session tells that answer so, whatever commands are left.
pub record CommitsWith (i : ℕ) (old new : RecordedStore) (x : Transaction) (reply : SessionReply) : Type 0 where
  pub verdict : Option Verdict
  pub answer : Reply
  pub step : TakesStep old new (record { session = i; action = actions.Commit (record x { verdict = verdict }); reply = answer })
  pub sound : is_fault answer ≡ false
  pub told : (graph shapes : List Triple) (cs : List Command) (replies : List SessionReply) → after_reply old.state (Some (record { transaction = x; graph = graph; shapes = shapes; head_taken = true })) Commit cs replies answer ≡ Some (up_to_event None cs (replies ++ reply ∷ []))

-- a command that is an event is one, but for a commit, which takes the newest version first
abbrev pub is_commit : Command → Bool
is_commit Commit = true
is_commit Begin = false
is_commit (Add ts) = false
is_commit (BadAdd n kind) = false
is_commit (Remove ts) = false
is_commit (BadRemove n kind) = false
is_commit (Attach ts) = false
is_commit (BadAttach n kind) = false
is_commit (Shapes ts) = false
is_commit (BadShapes n kind) = false
is_commit (BrokenShapes rule node) = false
is_commit (RefusedPattern node) = false
is_commit (Find p) = false
is_commit (Select ps) = false
is_commit (BadSelect n) = false
is_commit Report = false
is_commit Abort = false

abbrev pub places_with : ℕ → Bool → Option LocalAnswer → List ℕ
places_with i commit (Some a) = []
places_with i false None = i ∷ []
places_with i true None = i ∷ i ∷ []

-- the places of a command in the history
abbrev pub places_of : ℕ → Option OpenTransaction → Command → List ℕ
places_of i w c = places_with i (is_commit c) (local_answer w c)

-- The session did the command, whatever commands follow it, and may go on.
pub record Performs (i : ℕ) (old new : RecordedStore) (w v : Option OpenTransaction) (c : Command) (replies more : List SessionReply) : Type 0 where
  pub ready : IsReady new i v
  pub order : order_of new.history ≡ order_of old.history ++ places_of i w c
  pub advances : (cs : List Command) → Advances i old new (up_to_event w (c ∷ cs) replies) (up_to_event v cs more)

-- The session did all its commands; a transaction that is left open is dropped.
pub record PerformsAll (i : ℕ) (old new : RecordedStore) (cs : List Command) (replies : List SessionReply) : Type 0 where
  pub current : Option OpenTransaction
  pub opened : IsOpened new.state i
  pub advances : Advances i old new (up_to_event None cs []) (record { current = current; commands = []; replies = replies })
