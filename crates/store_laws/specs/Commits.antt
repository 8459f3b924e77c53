-- When a commit is accepted.
use Rattle.std.specs.Prelude.{◌≡◌, ℕ, ◌+◌, ◌≤◌, false, length, None}
use Rattle.rdf_model.specs.Graphs.{after}
use Rattle.store_model.specs.declared.commit.Transaction.{Transaction}
use Rattle.store_model.specs.declared.event.Action.TheVariants.{Commit}
use Rattle.store_model.specs.declared.event.Limits.{Limits}
use Rattle.store_model.specs.declared.event.Reply.{Reply}
use Rattle.store_model.specs.declared.event.Reply.TheVariants.{Done}
use Rattle.store_model.specs.Blocking.{NoBlocking}
use Rattle.store_model.specs.Logs.{IsUnlogged}
use Rattle.store_model.specs.Store.{State, StepOf, AcceptsCommit, again, committed, overtaker, shapes_under, version}

-- nothing overtook the commit, and its graph would be within the limit and without a result that blocks
pub record IsClean (l : Limits) (s : State) (x : Transaction) : Type 0 where
  pub alone : overtaker s.commits x.base x.finds ≡ None
  pub within : length (after s.graph x.net) ≤ l.triples
  pub sound : NoBlocking l.mode (after s.graph x.net) (shapes_under s.shapes x.staged)

-- Such a commit is accepted by a store that isn't stopped, or its log failed at it.
abbrev pub CleanCommitsAreAccepted : Type 0
CleanCommitsAreAccepted = (l : Limits) (s t : State) (i : ℕ) (x : Transaction) (r : Reply) → IsClean l s x → s.stopped ≡ false → StepOf l s i (Commit x) r t → AcceptsCommit s x r t

-- Without a log it is accepted.
abbrev pub UnloggedCleanCommits : Type 0
UnloggedCleanCommits =
    (l : Limits) (s t : State) (i : ℕ) (x : Transaction) (r : Reply) → IsClean l s x → IsUnlogged r → StepOf l s i (Commit x) r t → (r ≡ Done (version s + 1) (again s.commits x.staged x.verdict)) × (t ≡ committed s x)
