-- A session's own events in the one history of all sessions.
use Rattle.std.specs.Prelude.{◌≡◌, ℕ, suc, ◌+◌, ◌<◌, Bool, true, false, List, [], ◌∷◌, length, map, get_or, Option, Some, None, nat_eq, MatchBool, if◌then◌else◌}
use Rattle.std.specs.Option.{option_map}
use Rattle.std.specs.List.{AllByRecursion}
use Rattle.store_model.specs.declared.event.Limits.{Limits}
use Rattle.store_model.specs.declared.event.Event.{Event}
use Rattle.store_model.specs.declared.event.Action.{Action}
use Rattle.store_model.specs.declared.event.Action.TheVariants.{Open, Begin, Name, Head, Commit, Void}
use Rattle.store_model.specs.declared.event.Reply.{Reply}
use Rattle.store_model.specs.Logs.{is_fault}
use Rattle.store_model.specs.Store.{State, Step, Replays}
use Rattle.session_model.specs.declared.command.Command.{Command}
use Rattle.session_model.specs.declared.reply.SessionReply.{SessionReply}
use Rattle.session_model.specs.Sessions.{OpenTransaction, SessionState, up_to_event, GoesOn, no_session, HasReplies}

abbrev pub is_opening : Action → Bool
is_opening Open = true
is_opening Begin = false
is_opening (Name kind terms) = false
is_opening Head = false
is_opening (Commit x) = false
is_opening Void = false

-- the action as the session's file has it: a commit without its verdict
abbrev pub unaided : Action → Action
unaided Open = Open
unaided Begin = Begin
unaided (Name kind terms) = Name kind terms
unaided Head = Head
unaided (Commit x) = Commit (record x { verdict = None })
unaided Void = Void

-- The event is that of the session's next command, and `more` holds of the session after its reply. Whether a commit has a
-- verdict isn't the file's.
abbrev pub OwnCommand : Action → State → Reply → Option OpenTransaction → List Command → List SessionReply → (SessionState → Type 0) → Type 0
OwnCommand a s r w [] replies more = ⊥
OwnCommand a s r w (c ∷ cs) replies more = (q : SessionState) × GoesOn s w c cs replies (unaided a) r q × more q

-- an own event: the opening, which moves nothing, or that of the next command
abbrev pub OwnEvent : Action → State → Reply → SessionState → (SessionState → Type 0) → Type 0
OwnEvent a s r p more = MatchBool (is_opening a) (more p) (OwnCommand a s r p.current p.commands p.replies more)

-- Through these events, which begin at s, session i goes from p to q.
abbrev pub Follows : Limits → ℕ → State → List Event → SessionState → SessionState → Type 0
Follows l i s [] p q = q ≡ p
Follows l i s (e ∷ es) p q = (t : State) → Step l s e t → MatchBool (nat_eq e.session i) (OwnEvent e.action s e.reply p (λ k. Follows l i t es k q)) (Follows l i t es p q)

-- before its first event, with the commands done that need none
abbrev pub first_state : List Command → SessionState
first_state cs = up_to_event None cs []

-- The history of a store that began in state s is one of these files: each session was opened, its events are those of its
-- file, and none is left.
pub record Follow (files : List (List Command)) (l : Limits) (s : State) (history : List Event) (all : List (List SessionReply)) : Type 0 where
  pub state : State
  pub last : List SessionState
  pub replays : Replays l s history state
  pub opened : state.opened ≡ length files
  pub count : length last ≡ length files
  pub numbered : AllByRecursion (λ e. 0 < e.session) history
  pub each : (k : ℕ) → k < length files → Follows l (k + 1) s history (first_state (get_or files k [])) (get_or last k no_session)
  pub left : AllByRecursion (λ p. p.commands ≡ []) last
  pub replies : all ≡ map (λ p. p.replies) last

-- the place of the first event at which the log failed, from 0, if there is one
abbrev pub fault_place : List Event → Option ℕ
fault_place [] = None
fault_place (e ∷ es) = if is_fault e.reply then Some 0 else option_map suc (fault_place es)

-- A law: such a history is a run of the files in its own order, from the same state, at whose end the store is in the
-- history's state. The log fails where it did in the history.
abbrev pub FollowingRuns : Type 0
FollowingRuns =
    (files : List (List Command)) (l : Limits) (s : State) (history : List Event) (all : List (List SessionReply)) (f : Follow files l s history all) → (run : HasReplies files l s (map (λ e. e.session) history) (fault_place history) all) × (run.last.state ≡ f.state)
