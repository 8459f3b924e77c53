-- What the sessions of a run are answered, when their files are walked through the plain store in an order of sessions.
use Rattle.std.specs.Prelude.{◌≡◌, ℕ, zero, suc, ◌+◌, ◌-◌, ◌≤◌, Bool, true, false, List, [], ◌∷◌, ◌++◌, length, map, set, get_or, Option, Some, None, nat_eq, nat_lt, MatchBool, if◌then◌else◌, codes}
use Rattle.std.specs.List.{flat_map, AllByRecursion}
use Rattle.rdf_model.specs.declared.term.Term.{Term}
use Rattle.rdf_model.specs.declared.triple.Triple.{Triple}
use Rattle.rdf_model.specs.declared.change.Change.{Change}
use Rattle.rdf_model.specs.declared.change.Change.TheVariants as changes
use Rattle.store_model.specs.declared.event.Limits.{Limits}
use Rattle.store_model.specs.declared.event.NameKind.TheVariants as kinds
use Rattle.store_model.specs.declared.commit.Transaction.{Transaction}
use Rattle.store_model.specs.declared.event.Action.{Action}
use Rattle.store_model.specs.declared.event.Action.TheVariants as actions
use Rattle.store_model.specs.declared.event.Reply.{Reply}
use Rattle.store_model.specs.declared.event.Reply.TheVariants.{Version, Named, Full, Unknown, Conflict, FullTriples, Refused, Done, LogFault, Stopped}
use Rattle.session_model.specs.declared.command.Command.{Command}
use Rattle.session_model.specs.declared.command.Command.TheVariants.{Begin, Add, BadAdd, Remove, BadRemove, Attach, BadAttach, Shapes, BadShapes, BrokenShapes, RefusedPattern, Commit, Find, Select, BadSelect, Report, Abort}
use Rattle.session_model.specs.declared.reply.SessionReply.{SessionReply}
use Rattle.session_model.specs.declared.reply.SessionReply.TheVariants.{AlreadyOpen, NoTransaction, Begun, Added, AddRefused, Removed, RemoveRefused, Attached, AttachRefused, UnknownNode, ShapesStaged, ShapesRefused, ShapesBroken, PatternRefused, FullTerms, Committed, ReadOnly, Overtaken, FullGraph, Refused as RefusedBy, Found, Selected, SelectFull, SelectRefused, Reported, Aborted, LogFailed, Stopped as StoppedAt}
use Rattle.rdf_model.specs.declared.pattern.Pattern.{Pattern}
use Rattle.rdf_model.specs.Graphs.{after}
use Rattle.rdf_model.specs.NTriples.{term_text, triple_text}
use Rattle.bgp_query.specs.declared.pattern.JoinPattern.{JoinPattern}
use Rattle.bgp_query.specs.Bindings.{most_bindings}
use Rattle.bgp_query.specs.TermBindings.{bindings, opened}
use Rattle.report_writer.specs.Report.{report_text}
use Rattle.store_model.specs.Finds.{found}
use Rattle.store_model.specs.Logs.{is_fault}
use Rattle.store_model.specs.Store.{State, StepOf, shapes_under, terms_of}

-- A session's open transaction: what its commit hands in, the data graph and the shapes graph at its begin, and whether its
-- commit has the newest version already.
pub record OpenTransaction : Type 0 where
  pub transaction : Transaction
  pub graph : List Triple
  pub shapes : List Triple
  pub head_taken : Bool

-- A session: its open transaction, the commands that are left of its file, and what it was answered.
pub record SessionState : Type 0 where
  pub current : Option OpenTransaction
  pub commands : List Command
  pub replies : List SessionReply

abbrev pub additions : List Triple → List Change
additions ts = map changes.Add ts

abbrev pub removals : List Triple → List Change
removals ts = map changes.Remove ts

-- subject, predicate and object of each
abbrev pub parts_of : List Triple → List Term
parts_of ts = flat_map terms_of ts

abbrev pub with_changes : OpenTransaction → List Change → OpenTransaction
with_changes w net = record w { transaction = record w.transaction { net = w.transaction.net ++ net } }

-- the shapes graph that was staged last counts
abbrev pub with_shapes : OpenTransaction → List Triple → OpenTransaction
with_shapes w ts = record w { transaction = record w.transaction { staged = Some ts } }

-- a find's pattern is recorded
abbrev pub with_find : OpenTransaction → Pattern → OpenTransaction
with_find w p = record w { transaction = record w.transaction { finds = w.transaction.finds ++ p ∷ [] } }

-- the triples that a find asks for, in the graph at the transaction's begin with its changes so far, in their order
abbrev pub found_by : OpenTransaction → Pattern → List Triple
found_by w p = found (after w.graph w.transaction.net) p

-- how many triples were found, and the N-Triples line of each, an LF before it
abbrev pub find_reply : List Triple → SessionReply
find_reply ts = Found (length ts) (flat_map (λ t. 10 ∷ triple_text t) ts)

-- the patterns of a select are recorded, each with its variables open, in their order
abbrev pub with_finds : OpenTransaction → List (JoinPattern Term) → OpenTransaction
with_finds w ps = record w { transaction = record w.transaction { finds = w.transaction.finds ++ map opened ps } }

-- the bindings that a select asks for, in the graph at the transaction's begin with its changes so far
abbrev pub selected_by : OpenTransaction → List (JoinPattern Term) → List (List Term)
selected_by w ps = bindings (after w.graph w.transaction.net) ps

-- the line of a binding: its terms, a space behind each, then a dot
abbrev pub binding_text : List Term → List ℕ
binding_text ts = flat_map (λ t. term_text t ++ 32 ∷ []) ts ++ codes "."

-- How many bindings there are, and the line of each, an LF before it; or that there are more than are answered.
abbrev pub select_reply : List (List Term) → SessionReply
select_reply rows = if nat_lt most_bindings (length rows) then SelectFull else Selected (length rows) (flat_map (λ ts. 10 ∷ binding_text ts) rows)

-- the report of the graph at its begin, by the shapes graph there
abbrev pub report_by : OpenTransaction → SessionReply
report_by w = Reported (record { graph = w.graph; shapes = w.shapes })

-- what a session answers by itself, and its transaction afterwards
pub record LocalAnswer : Type 0 where
  pub current : Option OpenTransaction
  pub reply : SessionReply

abbrev pub answers : SessionReply → Option OpenTransaction → Option LocalAnswer
answers reply w = Some (record { current = w; reply = reply })

-- a commit without changes and without staged shapes only reads
abbrev pub local_commit : OpenTransaction → List Change → Option (List Triple) → Option LocalAnswer
local_commit w [] None = answers (ReadOnly w.transaction.base) None
local_commit w [] (Some shapes) = None
local_commit w (c ∷ cs) staged = None

-- LocalReplies: what a session answers with no event; None where the command is an event of the store.
abbrev pub local_answer : Option OpenTransaction → Command → Option LocalAnswer
local_answer None Begin = None
local_answer (Some w) Begin = answers AlreadyOpen (Some w)
local_answer None (Add ts) = answers NoTransaction None
local_answer (Some w) (Add ts) = None
local_answer None (BadAdd n kind) = answers NoTransaction None
local_answer (Some w) (BadAdd n kind) = answers (AddRefused n kind) (Some w)
local_answer None (Remove ts) = answers NoTransaction None
local_answer (Some w) (Remove ts) = None
local_answer None (BadRemove n kind) = answers NoTransaction None
local_answer (Some w) (BadRemove n kind) = answers (RemoveRefused n kind) (Some w)
local_answer None (Attach ts) = answers NoTransaction None
local_answer (Some w) (Attach ts) = None
local_answer None (BadAttach n kind) = answers NoTransaction None
local_answer (Some w) (BadAttach n kind) = answers (AttachRefused n kind) (Some w)
local_answer None (Shapes ts) = answers NoTransaction None
local_answer (Some w) (Shapes ts) = None
local_answer None (BadShapes n kind) = answers NoTransaction None
local_answer (Some w) (BadShapes n kind) = answers (ShapesRefused n kind) (Some w)
local_answer None (BrokenShapes rule node) = answers NoTransaction None
local_answer (Some w) (BrokenShapes rule node) = answers (ShapesBroken rule node) (Some w)
local_answer None (RefusedPattern node) = answers NoTransaction None
local_answer (Some w) (RefusedPattern node) = answers (PatternRefused node) (Some w)
local_answer None Commit = answers NoTransaction None
local_answer (Some w) Commit = local_commit w w.transaction.net w.transaction.staged
local_answer None (Find p) = answers NoTransaction None
local_answer (Some w) (Find p) = answers (find_reply (found_by w p)) (Some (with_find w p))
local_answer None (Select ps) = answers NoTransaction None
local_answer (Some w) (Select ps) = answers (select_reply (selected_by w ps)) (Some (with_finds w ps))
local_answer None (BadSelect n) = answers NoTransaction None
local_answer (Some w) (BadSelect n) = answers (SelectRefused n) (Some w)
local_answer None Report = answers NoTransaction None
local_answer (Some w) Report = answers (report_by w) (Some w)
local_answer None Abort = answers NoTransaction None
local_answer (Some w) Abort = answers Aborted None

-- The session after the commands that are no events, up to its next event or its end.
abbrev pub up_to_event_by : Option LocalAnswer → SessionState → (Option OpenTransaction → List SessionReply → SessionState) → SessionState
up_to_event_by None s more = s
up_to_event_by (Some a) s more = more a.current (s.replies ++ a.reply ∷ [])

abbrev pub up_to_event : Option OpenTransaction → List Command → List SessionReply → SessionState
up_to_event w [] replies = record { current = w; commands = []; replies = replies }
up_to_event w (c ∷ cs) replies = up_to_event_by (local_answer w c) (record { current = w; commands = c ∷ cs; replies = replies }) (λ v more. up_to_event v cs more)

-- The event of a command that is one; a commit takes the newest version first. None for a command that isn't. The blank
-- nodes of additions and of shapes are the block's own; a removal names nodes of the store, an attachment only such.
abbrev pub commit_action : Bool → Transaction → Action
commit_action false x = actions.Head
commit_action true x = actions.Commit x

abbrev pub action_of : Option OpenTransaction → Command → Option Action
action_of None Begin = Some actions.Begin
action_of (Some w) (Add ts) = Some (actions.Name kinds.Fresh (parts_of ts))
action_of (Some w) (Remove ts) = Some (actions.Name kinds.Known (parts_of ts))
action_of (Some w) (Attach ts) = Some (actions.Name kinds.Attach (parts_of ts))
action_of (Some w) (Shapes ts) = Some (actions.Name kinds.Fresh (parts_of ts))
action_of (Some w) Commit = Some (commit_action w.head_taken w.transaction)
action_of w c = None

abbrev pub begun : ℕ → List Triple → List Triple → OpenTransaction
begun version graph shapes = record { transaction = record { base = version; net = []; staged = None; finds = []; verdict = None }; graph = graph; shapes = shapes; head_taken = false }

-- The session after the store's reply r to its command c, with cs left, where s was the store before it; None where the
-- store never replies so to that command. A commit that is refused prints the report of its results,
-- under the shapes graph that they break.
abbrev pub after_reply : State → Option OpenTransaction → Command → List Command → List SessionReply → Reply → Option SessionState
after_reply s None Begin cs replies (Version n) = Some (up_to_event (Some (begun n s.graph s.shapes)) cs (replies ++ Begun n ∷ []))
after_reply s (Some w) (Add ts) cs replies Named = Some (up_to_event (Some (with_changes w (additions ts))) cs (replies ++ Added (length ts) ∷ []))
after_reply s (Some w) (Add ts) cs replies (Full n) = Some (up_to_event (Some w) cs (replies ++ FullTerms ∷ []))
after_reply s (Some w) (Remove ts) cs replies Named = Some (up_to_event (Some (with_changes w (removals ts))) cs (replies ++ Removed (length ts) ∷ []))
after_reply s (Some w) (Remove ts) cs replies (Full n) = Some (up_to_event (Some w) cs (replies ++ FullTerms ∷ []))
after_reply s (Some w) (Attach ts) cs replies Named = Some (up_to_event (Some (with_changes w (additions ts))) cs (replies ++ Attached (length ts) ∷ []))
after_reply s (Some w) (Attach ts) cs replies (Full n) = Some (up_to_event (Some w) cs (replies ++ FullTerms ∷ []))
after_reply s (Some w) (Attach ts) cs replies (Unknown node) = Some (up_to_event (Some w) cs (replies ++ UnknownNode node ∷ []))
after_reply s (Some w) (Shapes ts) cs replies Named = Some (up_to_event (Some (with_shapes w ts)) cs (replies ++ ShapesStaged (length ts) ∷ []))
after_reply s (Some w) (Shapes ts) cs replies (Full n) = Some (up_to_event (Some w) cs (replies ++ FullTerms ∷ []))
after_reply s (Some w) Commit cs replies (Version n) = Some (record { current = Some (record w { head_taken = true }); commands = Commit ∷ cs; replies = replies })
after_reply s (Some w) Commit cs replies (Done n why) = Some (up_to_event None cs (replies ++ Committed n ∷ []))
after_reply s (Some w) Commit cs replies (Conflict n t) = Some (up_to_event None cs (replies ++ Overtaken n t ∷ []))
after_reply s (Some w) Commit cs replies (FullTriples n) = Some (up_to_event None cs (replies ++ FullGraph ∷ []))
after_reply s (Some w) Commit cs replies (Refused rows why) = Some (up_to_event None cs (replies ++ RefusedBy (length rows) (report_text (shapes_under s.shapes w.transaction.staged) rows) ∷ []))
after_reply s (Some w) Commit cs replies LogFault = Some (up_to_event None cs (replies ++ LogFailed ∷ []))
after_reply s (Some w) Commit cs replies (Stopped n) = Some (up_to_event None cs (replies ++ StoppedAt n ∷ []))
after_reply s w c cs replies r = None

-- The command is the event a, and the store's reply r to it takes the session to q.
pub record GoesOn (s : State) (w : Option OpenTransaction) (c : Command) (cs : List Command) (replies : List SessionReply) (a : Action) (r : Reply) (q : SessionState) : Type 0 where
  pub event : action_of w c ≡ Some a
  pub next : after_reply s w c cs replies r ≡ Some q

-- All sessions of a run over one store.
pub record World : Type 0 where
  pub state : State
  pub sessions : List SessionState

abbrev pub world : State → List SessionState → World
world s sessions = record { state = s; sessions = sessions }

-- The next event of session i, which has one left. It is the fault of the log, or not.
abbrev pub RunsEvent : Limits → World → ℕ → Bool → Option OpenTransaction → List Command → List SessionReply → World → Type 0
RunsEvent l m i fails w [] replies n = ⊥
RunsEvent l m i fails w (c ∷ cs) replies n =
    (a : Action) × (r : Reply) × (t : State) × (q : SessionState) × GoesOn m.state w c cs replies a r q × StepOf l m.state i a r t × (n ≡ record { state = t; sessions = set m.sessions (i - 1) q }) × (is_fault r ≡ fails)

abbrev pub no_session : SessionState
no_session = record { current = None; commands = []; replies = [] }

abbrev pub session_at : World → ℕ → SessionState
session_at m i = get_or m.sessions (i - 1) no_session

-- the opening of session i, which has a file
abbrev pub RunsOpening : Limits → World → ℕ → Bool → World → Type 0
RunsOpening l m i fails n = (i ≤ length m.sessions) × ((r : Reply) × (t : State) × StepOf l m.state i actions.Open r t × (n ≡ record m { state = t }) × (is_fault r ≡ fails))

-- A place of an order: the next opening, or the next event of a session that was opened.
abbrev pub RunsPlace : Limits → World → ℕ → Bool → World → Type 0
RunsPlace l m i fails n = MatchBool (nat_eq i (m.state.opened + 1)) (RunsOpening l m i fails n) (RunsEvent l m i fails (session_at m i).current (session_at m i).commands (session_at m i).replies n)

-- The place in an order at which the log fails, from 0, if there is one: whether it is the first, and where it is behind that.
abbrev pub is_first : Option ℕ → Bool
is_first None = false
is_first (Some zero) = true
is_first (Some (suc k)) = false

abbrev pub behind_first : Option ℕ → Option ℕ
behind_first None = None
behind_first (Some zero) = None
behind_first (Some (suc k)) = Some k

-- The places of an order are run, and the log fails at just this one of them.
abbrev pub RunsInOrder : Limits → World → List ℕ → Option ℕ → World → Type 0
RunsInOrder l m [] None n = n ≡ m
RunsInOrder l m [] (Some k) n = ⊥
RunsInOrder l m (i ∷ order) fault n = (k : World) × RunsPlace l m i (is_first fault) k × RunsInOrder l k order (behind_first fault) n

-- before the first place: the store is in state s, and the commands are done that need no event
abbrev pub start : State → List (List Command) → World
start s files = record { state = s; sessions = map (λ cs. up_to_event None cs []) files }

-- all sessions were opened, and none has an event left
pub record IsComplete (m : World) : Type 0 where
  pub opened : m.state.opened ≡ length m.sessions
  pub left : AllByRecursion (λ s. s.commands ≡ []) m.sessions

-- The order is valid for these files and a store that begins in state s, where the log fails at this place of it, if it does;
-- and the sessions are answered so.
pub record HasReplies (files : List (List Command)) (l : Limits) (s : State) (order : List ℕ) (fault : Option ℕ) (all : List (List SessionReply)) : Type 0 where
  pub last : World
  pub runs : RunsInOrder l (start s files) order fault last
  pub complete : IsComplete last
  pub replies : all ≡ map (λ s. s.replies) last.sessions
