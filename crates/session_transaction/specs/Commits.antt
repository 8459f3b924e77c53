-- What the store's core answers a commit.
use Rattle.std.specs.Prelude.{◌≡◌, ℕ}
use Rattle.rdf_model.specs.Graphs.{after}
use Rattle.shape_model.specs.Validation.{Listing}
use Rattle.store_model.specs.declared.commit.Transaction.{Transaction}
use Rattle.store_model.specs.declared.event.Action.TheVariants as actions
use Rattle.store_model.specs.declared.event.Reply.{Reply}
use Rattle.store_model.specs.declared.event.Reply.TheVariants as replies
use Rattle.store_model.specs.Store.{State, RecordedStore, TakesStep, again, shapes_under}
use Rattle.commit_core.specs.Work.{StepsBy}
use Rattle.session_transaction.specs.declared.committing.Committed.{Committed}
use Rattle.session_transaction.specs.declared.committing.Committed.TheVariants.{ReadOnly, Done, Conflict, FullTriples, Refused, LogFault, Stopped}

-- The plain store's reply to the commit of x is told so; s is the state before it. The results of a refusal are the listing
-- of the graph that would be, under the staged shapes or else the newest.
abbrev pub IsAnswer : State → Transaction → Reply → Committed → Type 0
IsAnswer s x r (ReadOnly v) = ⊥
IsAnswer s x r (Done n why) = r ≡ replies.Done n why
IsAnswer s x r (Conflict n t) = r ≡ replies.Conflict n t
IsAnswer s x r (FullTriples n) = r ≡ replies.FullTriples n
IsAnswer s x r (Refused rows why shapes) = (r ≡ replies.Refused rows why) × (shapes ≡ shapes_under s.shapes x.staged) × Listing (after s.graph x.net) shapes rows
IsAnswer s x r LogFault = r ≡ replies.LogFault
IsAnswer s x r (Stopped v) = r ≡ replies.Stopped v

-- How many evaluations were counted, from the one number to the other: by the answer, and by the state before it.
abbrev pub CountsFor : Committed → State → Transaction → ℕ → ℕ → Type 0
CountsFor (ReadOnly v) s x counted now = now ≡ counted
CountsFor (Done n why) s x counted now = StepsBy why s.graph s.shapes x counted now
CountsFor (Conflict n t) s x counted now = now ≡ counted
CountsFor (FullTriples n) s x counted now = now ≡ counted
CountsFor (Refused rows why shapes) s x counted now = StepsBy why s.graph s.shapes x counted now
CountsFor LogFault s x counted now = StepsBy (again s.commits x.staged x.verdict) s.graph s.shapes x counted now
CountsFor (Stopped v) s x counted now = now ≡ counted

-- The commit of session i was one step of the store, with this answer, and its evaluations were counted.
pub record IsCommitted (old new : RecordedStore) (i : ℕ) (x : Transaction) (counted now : ℕ) (answer : Committed) : Type 0 where
  pub reply : Reply
  pub step : TakesStep old new (record { session = i; action = actions.Commit x; reply = reply })
  pub told : IsAnswer old.state x reply answer
  pub counts : CountsFor answer old.state x counted now

-- no log failed
abbrev pub IsNoFault : Committed → Type 0
IsNoFault LogFault = ⊥
IsNoFault answer = Unit {0}
