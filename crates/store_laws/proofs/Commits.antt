-- A commit against which nothing stands is accepted.
use Rattle.std.proofs.Common.{◌≡◌, ◌≤◌, Bool, true, false, nat_lt, length, Option, subst, arith, inl, inr}
use Rattle.std.specs.Prelude.{MatchBool, MatchOption}
use Rattle.std.proofs.lemmas.Bool.Decides.{nat_tests}
use Rattle.rdf_model.specs.Graphs.{after}
use Rattle.store_model.specs.declared.commit.Overtaker.{Overtaker}
use Rattle.store_model.specs.declared.commit.Transaction.{Transaction}
use Rattle.store_model.specs.declared.event.Limits.{Limits}
use Rattle.store_model.specs.declared.event.Reply.{Reply}
use Rattle.store_model.specs.declared.event.Reply.TheVariants.{Conflict, FullTriples, Refused, Stopped}
use Rattle.store_model.specs.Blocking.{has_blocking}
use Rattle.store_model.specs.Logs.{IsUnlogged}
use Rattle.store_model.specs.Store.{State, Replies, AcceptsCommit, CommitsByListing, CommitsWithinLimit, CommitsUnlessOvertaken, again, shapes_under, version}
use Rattle.store_model.proofs.Blocking.{NoBlocking-listed}
use Rattle.store_laws.specs.Commits.{IsClean, CleanCommitsAreAccepted, UnloggedCleanCommits}

by_listing : (l : Limits) (s t : State) (x : Transaction) (r : Reply) → IsClean l s x → CommitsByListing l s x r t → AcceptsCommit s x r t
by_listing l s t x r c h =
    let none : has_blocking l.mode (shapes_under s.shapes x.staged) h.0 ≡ false = (NoBlocking-listed l.mode (after s.graph x.net) (shapes_under s.shapes x.staged) h.0 h.1).0 c.sound in
    subst (λ b. MatchBool b (Replies (Refused h.0 (again s.commits x.staged x.verdict)) s r t) (AcceptsCommit s x r t)) none h.2

unless_overtaken : (l : Limits) (s t : State) (x : Transaction) (r : Reply) → IsClean l s x → CommitsUnlessOvertaken l s x r t → AcceptsCommit s x r t
unless_overtaken l s t x r c h =
    let le : length (after s.graph x.net) ≤ l.triples = c.within in
    let small : nat_lt l.triples (length (after s.graph x.net)) ≡ false = grind (arith, nat_tests) in
    let weighed : CommitsWithinLimit l s x r t = subst (λ (o : Option Overtaker). MatchOption o (CommitsWithinLimit l s x r t) (λ y. Replies (Conflict y.commit y.triple) s r t)) c.alone h in
    by_listing l s t x r c (subst (λ b. MatchBool b (Replies (FullTriples (length (after s.graph x.net))) s r t) (CommitsByListing l s x r t)) small weighed)

pub clean_commits_are_accepted : CleanCommitsAreAccepted
clean_commits_are_accepted l s t i x r c running h = unless_overtaken l s t x r c (subst (λ b. MatchBool b (Replies (Stopped (version s)) s r t) (CommitsUnlessOvertaken l s x r t)) running h.2)

-- a reply that needs no log is of a store that isn't stopped
unlogged_runs : (l : Limits) (s t : State) (x : Transaction) (r : Reply) (b : Bool) → IsUnlogged r → MatchBool b (Replies (Stopped (version s)) s r t) (CommitsUnlessOvertaken l s x r t) → CommitsUnlessOvertaken l s x r t
unlogged_runs l s t x r true n h = absurd (subst (λ (q : Reply). IsUnlogged q) h.0 n)
unlogged_runs l s t x r false n h = h

pub unlogged_clean_commits : UnloggedCleanCommits
unlogged_clean_commits l s t i x r c n h = elim (unless_overtaken l s t x r c (unlogged_runs l s t x r s.stopped n h.2)) [
  | inl a ↦ a
  | inr a ↦ absurd (subst (λ (q : Reply). IsUnlogged q) a.0 n)
]
