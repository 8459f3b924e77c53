-- What a commit's evaluations are by its answer.
use Rattle.std.proofs.Common.{◌≡◌, ◌≤◌, ℕ, ◌+◌, Bool, true, false, cond, List, [], ◌∷◌, drop, Option, Some, None, refl, sym, subst, ◌∙◌}
use Rattle.std.specs.Prelude.{MatchBool, MatchOption, OnOk, Result, Ok, Err}
use Rattle.rdf_model.specs.declared.look.Look.{Look}
use Rattle.rdf_model.specs.declared.term.Term.{Term}
use Rattle.rdf_model.specs.declared.triple.Triple.{Triple}
use Rattle.rdf_model.specs.Graphs.{after}
use Rattle.store_model.specs.declared.commit.Accepted.{Accepted}
use Rattle.store_model.specs.declared.commit.Again.{Again}
use Rattle.store_model.specs.declared.commit.Again.TheVariants.{No, OwnShapes, NoVerdict, ShapesChanged, Touched}
use Rattle.store_model.specs.declared.commit.Transaction.{Transaction}
use Rattle.store_model.specs.declared.commit.Verdict.{Verdict}
use Rattle.store_model.specs.Store.{State, again, again_from, first_read, shapes_under, touched_or}
use Rattle.parallel_validate.specs.Verdicts.{IsEvaluated}
use Rattle.parallel_validate.specs.Counting.{GrowsByCount, IsTargetPair}
use Rattle.commit_core.specs.declared.commit.Commit.{Commit}
use Rattle.commit_core.specs.declared.commit.Commit.TheVariants.{Done, Conflict, FullTriples, Refused, LogFault, Stopped, Memory}
use Rattle.commit_core.specs.Work.{AnswerSteps, CommitSteps, IsByResults, ResultSteps, StepsBy, is_no}

-- an answer by results has the evaluations of its results
pub by_results : (held : Bool) (why : Again) (s : State) (x : Transaction) (old new : ℕ) (r : Commit) → IsByResults why r → ResultSteps held s x old new → old ≤ new → AnswerSteps held why s x old new r
by_results held why s x old new (Done number a) e steps le = (e, steps)
by_results held why s x old new (Conflict commit triple) e steps le = absurd e
by_results held why s x old new (FullTriples count) e steps le = absurd e
by_results held why s x old new (Refused rows a shapes) e steps le = (e, steps)
by_results held why s x old new LogFault e steps le = steps
by_results held why s x old new (Stopped version) e steps le = absurd e
by_results held why s x old new (Memory y) e steps le = le

-- only a transaction that stages shapes evaluates for them
touched_apart : (n : ℕ) (o : Option Triple) (later : Again) → (later ≡ OwnShapes → ⊥) → touched_or n o later ≡ OwnShapes → ⊥
touched_apart n None later none e = none e
touched_apart n (Some t) later none e = cc

later_apart : (n : ℕ) (ls : List (Look Term)) (commits : List Accepted) → again_from n ls commits ≡ OwnShapes → ⊥
later_apart n ls [] e = cc
later_apart n ls (a ∷ as') e = elim a.staged as (λ b. cond b (ShapesChanged n) (touched_or n (first_read ls a.changed) (again_from (n + 1) ls as')) ≡ OwnShapes → ⊥) [
  | true ↦ λ h. cc
  | false ↦ λ h. touched_apart n (first_read ls a.changed) (again_from (n + 1) ls as') (later_apart (n + 1) ls as') h
] e

none_staged : (commits : List Accepted) (v : Option Verdict) → again commits None v ≡ OwnShapes → ⊥
none_staged commits None e = cc
none_staged commits (Some v) e = later_apart (v.head + 1) v.looks (drop v.head commits) e

-- by the reason that the store gives
module _ (s : State) (x : Transaction) (old new : ℕ) where
  not_held : (held : Bool) → held ≡ false → ResultSteps held s x old new → x.staged ≡ None → GrowsByCount (IsEvaluated s.graph s.shapes x.net) old new
  not_held held e steps none =
      subst (λ (o : Option (List Triple)). MatchOption o (GrowsByCount (IsEvaluated s.graph s.shapes x.net) old new) (λ staged. GrowsByCount (IsTargetPair (after s.graph x.net) staged) old new)) none
      (subst (λ b. ResultSteps b s x old new) e steps)

  of_changes : (why : Again) → (why ≡ OwnShapes → ⊥) → (held : Bool) → held ≡ is_no why → ResultSteps held s x old new → x.staged ≡ None → StepsBy why s.graph s.shapes x old new
  of_changes No apart held e steps none = subst (λ b. ResultSteps b s x old new) e steps
  of_changes OwnShapes apart held e steps none = absurd (apart refl)
  of_changes NoVerdict apart held e steps none = not_held held e steps none
  of_changes (ShapesChanged n) apart held e steps none = not_held held e steps none
  of_changes (Touched n t) apart held e steps none = not_held held e steps none

  of_shapes : (why : Again) → why ≡ OwnShapes → (held : Bool) → held ≡ is_no why → ResultSteps held s x old new → (staged : List Triple) → x.staged ≡ Some staged → StepsBy why s.graph s.shapes x old new
  of_shapes why own held e steps staged some =
      let not_held : held ≡ false = e ∙ (λ i. is_no (own i)) in
      let whole : GrowsByCount (IsTargetPair (after s.graph x.net) staged) old new =
      subst (λ (o : Option (List Triple)). MatchOption o (GrowsByCount (IsEvaluated s.graph s.shapes x.net) old new) (λ t. GrowsByCount (IsTargetPair (after s.graph x.net) t) old new)) some (subst (λ b. ResultSteps b s x old new) not_held steps) in
      subst (λ (a : Again). StepsBy a s.graph s.shapes x old new) (sym own) (subst (λ (o : Option (List Triple)). GrowsByCount (IsTargetPair (after s.graph x.net) (shapes_under s.shapes o)) old new) (sym some) whole)

  by_staged : (o : Option (List Triple)) → x.staged ≡ o → (commits : List Accepted) (why : Again) → why ≡ again commits x.staged x.verdict → (held : Bool) → held ≡ is_no why → ResultSteps held s x old new → StepsBy why s.graph s.shapes x old new
  by_staged None e commits why w held h steps = of_changes why (λ own. none_staged commits x.verdict (sym (λ i. again commits (e i) x.verdict) ∙ sym w ∙ own)) held h steps e
  by_staged (Some staged) e commits why w held h steps = of_shapes why (w ∙ (λ i. again commits (e i) x.verdict)) held h steps staged e

  pub commit_steps : (why : Again) → why ≡ again s.commits x.staged x.verdict → (held : Bool) → held ≡ is_no why → (r : Commit) → AnswerSteps held why s x old new r → CommitSteps r s x old new
  commit_steps why w held h (Done number a) (e, steps) = subst (λ (b : Again). StepsBy b s.graph s.shapes x old new) (sym e) (by_staged x.staged refl s.commits why w held h steps)
  commit_steps why w held h (Conflict commit triple) steps = steps
  commit_steps why w held h (FullTriples count) steps = steps
  commit_steps why w held h (Refused rows a shapes) (e, steps) = subst (λ (b : Again). StepsBy b s.graph s.shapes x old new) (sym e) (by_staged x.staged refl s.commits why w held h steps)
  commit_steps why w held h LogFault steps = subst (λ (b : Again). StepsBy b s.graph s.shapes x old new) w (by_staged x.staged refl s.commits why w held h steps)
  commit_steps why w held h (Stopped version) steps = steps
  commit_steps why w held h (Memory y) steps = steps

-- what holds where a call is answered Ok
pub on_ok : {A E : Type 0} → (r : Result A E) (P Q : Type 0) → (P → Q) → OnOk r P → OnOk r Q
on_ok (Ok a) P Q f h = f h
on_ok (Err e) P Q f h = h

-- an evaluation under staged shapes, and one of what the changes touch
pub whole_steps : (s : State) (x : Transaction) (old new : ℕ) (staged : List Triple) → x.staged ≡ Some staged → GrowsByCount (IsTargetPair (after s.graph x.net) (shapes_under s.shapes x.staged)) old new → ResultSteps false s x old new
whole_steps s x old new staged e h =
    subst (λ (o : Option (List Triple)). MatchOption o (GrowsByCount (IsEvaluated s.graph s.shapes x.net) old new) (λ t. GrowsByCount (IsTargetPair (after s.graph x.net) t) old new)) (sym e)
    (subst (λ (o : Option (List Triple)). GrowsByCount (IsTargetPair (after s.graph x.net) (shapes_under s.shapes o)) old new) e h)

pub changed_steps : (s : State) (x : Transaction) (old new : ℕ) → x.staged ≡ None → GrowsByCount (IsEvaluated s.graph s.shapes x.net) old new → ResultSteps false s x old new
changed_steps s x old new e h =
    subst (λ (o : Option (List Triple)). MatchOption o (GrowsByCount (IsEvaluated s.graph s.shapes x.net) old new) (λ t. GrowsByCount (IsTargetPair (after s.graph x.net) t) old new)) (sym e) h

-- whether a verdict held, by its reason
pub no_held : (why : Again) → MatchBool (is_no why) (why ≡ No) (Unit {0})
no_held No = refl
no_held OwnShapes = tt
no_held NoVerdict = tt
no_held (ShapesChanged n) = tt
no_held (Touched n t) = tt
