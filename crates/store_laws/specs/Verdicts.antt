-- A verdict changes nothing but why a commit evaluates again.
use Rattle.std.specs.Prelude.{ℕ, List, Option, None}
use Rattle.rdf_model.specs.declared.triple.Triple.{Triple}
use Rattle.store_model.specs.declared.event.Limits.{Limits}
use Rattle.store_model.specs.declared.commit.Accepted.{Accepted}
use Rattle.store_model.specs.declared.commit.Transaction.{Transaction}
use Rattle.store_model.specs.declared.event.Action.TheVariants.{Commit}
use Rattle.store_model.specs.declared.event.Reply.{Reply}
use Rattle.store_model.specs.declared.event.Reply.TheVariants.{Done, Refused}
use Rattle.store_model.specs.Store.{State, StepOf, again}

-- the reply as if there had been no verdict
abbrev pub unaided : List Accepted → Option (List Triple) → Reply → Reply
unaided commits staged (Done n why) = Done n (again commits staged None)
unaided commits staged (Refused rows why) = Refused rows (again commits staged None)
unaided commits staged r = r

abbrev pub VerdictAside : Type 0
VerdictAside = (l : Limits) (s t : State) (i : ℕ) (x : Transaction) (r : Reply) → StepOf l s i (Commit x) r t → StepOf l s i (Commit (record x { verdict = None })) (unaided s.commits x.staged r) t
