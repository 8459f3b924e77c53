-- The state that a commit leaves which was accepted.
use Rattle.std.proofs.Common.{◌≡◌, ℕ, Bool, true, false, nat_lt, List, length, Option, Some, None, refl, ap, subst, inl, inr}
use Rattle.std.specs.Prelude.{MatchBool, MatchOption}
use Rattle.rdf_model.specs.Graphs.{after}
use Rattle.shape_model.specs.declared.result_row.ResultRow.{ResultRow}
use Rattle.store_model.specs.declared.commit.Again.{Again}
use Rattle.store_model.specs.declared.commit.Overtaker.{Overtaker}
use Rattle.store_model.specs.declared.commit.Transaction.{Transaction}
use Rattle.store_model.specs.declared.event.Action.{Action}
use Rattle.store_model.specs.declared.event.Action.TheVariants as actions
use Rattle.store_model.specs.declared.event.Limits.{Limits}
use Rattle.store_model.specs.declared.event.Reply.{Reply}
use Rattle.store_model.specs.declared.event.Reply.TheVariants as replies
use Rattle.store_model.specs.Blocking.{has_blocking}
use Rattle.store_model.specs.Store.{AcceptsCommit, CommitsByListing, CommitsUnlessOvertaken, CommitsWithinLimit, Replies, State, StepOf, again, committed, overtaker, shapes_under, version}
use Rattle.commit_core.specs.Logged.{accepted_in}

module _ (l : Limits) (s t : State) (x : Transaction) (n : ℕ) (why : Again) where
  accepts : AcceptsCommit s x (replies.Done n why) t → t ≡ committed s x
  accepts (inl h) = h.1
  accepts (inr h) = let e : replies.Done n why ≡ replies.LogFault = h.0 in cc

  rows_by : (rows : List ResultRow) (b : Bool) → MatchBool b (Replies (replies.Refused rows (again s.commits x.staged x.verdict)) s (replies.Done n why) t) (AcceptsCommit s x (replies.Done n why) t) → t ≡ committed s x
  rows_by rows true h = let e : replies.Done n why ≡ replies.Refused rows (again s.commits x.staged x.verdict) = h.0 in cc
  rows_by rows false h = accepts h

  weighs : (b : Bool) → MatchBool b (Replies (replies.FullTriples (length (after s.graph x.net))) s (replies.Done n why) t) (CommitsByListing l s x (replies.Done n why) t) → t ≡ committed s x
  weighs true h = let e : replies.Done n why ≡ replies.FullTriples (length (after s.graph x.net)) = h.0 in cc
  weighs false h = rows_by h.0 (has_blocking l.mode (shapes_under s.shapes x.staged) h.0) h.2

  overtakes : (o : Option Overtaker) → MatchOption o (CommitsWithinLimit l s x (replies.Done n why) t) (λ h. Replies (replies.Conflict h.commit h.triple) s (replies.Done n why) t) → t ≡ committed s x
  overtakes None h = weighs (nat_lt l.triples (length (after s.graph x.net))) h
  overtakes (Some y) h = let e : replies.Done n why ≡ replies.Conflict y.commit y.triple = h.0 in cc

  commits : (b : Bool) → MatchBool b (Replies (replies.Stopped (version s)) s (replies.Done n why) t) (CommitsUnlessOvertaken l s x (replies.Done n why) t) → t ≡ committed s x
  commits true h = let e : replies.Done n why ≡ replies.Stopped (version s) = h.0 in cc
  commits false h = overtakes (overtaker s.commits x.base x.finds) h

-- what an event is where it has an accepted transaction
accepted_is : (a : Action) (r : Reply) (x : Transaction) → accepted_in a r ≡ Some x → (n : ℕ) × (why : Again) × (a ≡ actions.Commit x) × (r ≡ replies.Done n why)
accepted_is actions.Open r x e = cc
accepted_is actions.Begin r x e = cc
accepted_is (actions.Name kind ts) r x e = cc
accepted_is actions.Head r x e = cc
accepted_is actions.Void r x e = cc
accepted_is (actions.Commit y) (replies.Done n why) x e = let same : y ≡ x = cc in (n, why, ap actions.Commit same, refl)
accepted_is (actions.Commit y) (replies.Session n) x e = cc
accepted_is (actions.Commit y) replies.SessionsFull x e = cc
accepted_is (actions.Commit y) (replies.Version n) x e = cc
accepted_is (actions.Commit y) replies.Named x e = cc
accepted_is (actions.Commit y) (replies.Unknown node) x e = cc
accepted_is (actions.Commit y) (replies.Full n) x e = cc
accepted_is (actions.Commit y) (replies.Conflict n triple) x e = cc
accepted_is (actions.Commit y) (replies.FullTriples n) x e = cc
accepted_is (actions.Commit y) (replies.Refused rows why) x e = cc
accepted_is (actions.Commit y) replies.LogFault x e = cc
accepted_is (actions.Commit y) (replies.Stopped n) x e = cc
accepted_is (actions.Commit y) replies.Nothing x e = cc

pub committed_by : (l : Limits) (s t : State) (i : ℕ) (a : Action) (r : Reply) (x : Transaction) → accepted_in a r ≡ Some x → StepOf l s i a r t → t ≡ committed s x
committed_by l s t i a r x some h =
    let k = accepted_is a r x some in
    let own : StepOf l s i (actions.Commit x) (replies.Done k.0 k.1) t = subst (λ (q : Reply). StepOf l s i (actions.Commit x) q t) k.3 (subst (λ (b : Action). StepOf l s i b r t) k.2 h) in
    commits l s t x k.0 k.1 s.stopped own.2
