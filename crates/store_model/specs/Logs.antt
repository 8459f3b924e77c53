-- What only a store with a log answers.
use Rattle.std.specs.Prelude.{◌≡◌, ℕ, Bool, true, false, ◌||◌, List}
use Rattle.std.specs.List.{AllByRecursion, list_any}
use Rattle.store_model.specs.declared.event.Action.{Action}
use Rattle.store_model.specs.declared.event.Event.{Event}
use Rattle.store_model.specs.declared.event.Limits.{Limits}
use Rattle.store_model.specs.declared.event.Reply.{Reply}
use Rattle.store_model.specs.declared.event.Reply.TheVariants.{LogFault, Stopped}
use Rattle.store_model.specs.Store.{State, StepOf, Replays}

-- a reply that needs no log
abbrev pub IsUnlogged : Reply → Type 0
IsUnlogged LogFault = ⊥
IsUnlogged (Stopped version) = ⊥
IsUnlogged r = Unit {0}

-- Every reply of the history is one that needs no log.
abbrev pub HasNoLog : List Event → Type 0
HasNoLog events = AllByRecursion (λ e. IsUnlogged e.reply) events

abbrev pub is_fault : Reply → Bool
is_fault LogFault = true
is_fault r = false

-- whether the log failed in this history
abbrev pub has_fault : List Event → Bool
has_fault events = list_any (λ e. is_fault e.reply) events

-- A law of the store: without a log, an action has one reply at most, and one state follows.
abbrev pub StepIsDeterministic : Type 0
StepIsDeterministic = (l : Limits) (s t u : State) (i : ℕ) (a : Action) (q r : Reply) → IsUnlogged q → IsUnlogged r → StepOf l s i a q t → StepOf l s i a r u → (r ≡ q) × (u ≡ t)

-- A store is stopped exactly where it was at the beginning of its history, or its log failed in it.
abbrev pub FaultsStop : Type 0
FaultsStop = (l : Limits) (s t : State) (es : List Event) → Replays l s es t → t.stopped ≡ (s.stopped || has_fault es)

-- So it never stops without a log.
abbrev pub UnloggedRun : Type 0
UnloggedRun = (l : Limits) (s t : State) (es : List Event) → s.stopped ≡ false → HasNoLog es → Replays l s es t → t.stopped ≡ false
