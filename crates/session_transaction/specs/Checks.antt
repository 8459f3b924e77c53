-- What is kept of a check until the commit.
use Rattle.std.specs.Prelude.{◌≡◌, ◌≢◌, ◌++◌, ℕ, Bool, true, false, List, [], Option, Some, None, MatchOption}
use Rattle.std.specs.List.{AllByRecursion}
use Rattle.rdf_model.specs.declared.change.Change.{Change}
use Rattle.kept_rows.specs.declared.pair_rows.PairRows.{PairRows}
use Rattle.store_model.specs.declared.commit.Transaction.{Transaction}
use Rattle.store_model.specs.declared.commit.Verdict.{Verdict}
use Rattle.store_model.specs.declared.event.Event.{Event}
use Rattle.store_model.specs.declared.event.Limits.{Limits}
use Rattle.store_model.specs.Snapshots.{Snapshot, snapshot_of}
use Rattle.store_model.specs.Store.{AreNamed, Replays, State, looked_at}
use Rattle.parallel_validate.specs.Counting.{GrowsByCount}
use Rattle.parallel_validate.specs.Verdicts.{IsEvaluated}
use Rattle.commit_core.specs.Verdicts.{IsPairedCheck}
use Rattle.commit_core.specs.declared.checked.CheckedNet.{CheckedNet}
use Rattle.commit_core.specs.declared.commit.CheckedTransaction.{CheckedTransaction}
use Rattle.session_transaction.specs.declared.transaction.OpenTransaction.{OpenTransaction}

abbrev pub verdict_of : Option CheckedNet → Option Verdict
verdict_of None = None
verdict_of (Some c) = Some c.verdict

abbrev pub pairs_of : Option CheckedNet → List PairRows
pairs_of None = []
pairs_of (Some c) = c.pairs

-- what a commit hands in: the transaction with the verdict of its check, if there is one
abbrev pub committing : OpenTransaction → Transaction
committing w = record w.transaction { verdict = verdict_of w.checked }

abbrev pub handed_in : OpenTransaction → CheckedTransaction
handed_in w = record { transaction = committing w; hints = w.hints; pairs = pairs_of w.checked }

-- and the other way round
abbrev pub checked_of : Option Verdict → List PairRows → Option CheckedNet
checked_of None pairs = None
checked_of (Some v) pairs = Some (record { verdict = v; pairs = pairs })

abbrev pub handed_back : CheckedTransaction → Snapshot → OpenTransaction
handed_back x n = record { transaction = record x.transaction { verdict = None }; checked = checked_of x.transaction.verdict x.pairs; hints = x.hints; snap = n }

-- What a check of the changes at this version found: all its looks are of terms that are named there.
pub record IsCheckAt (n : Snapshot) (net : List Change) (c : CheckedNet) : Type 0 where
  pub head : c.verdict.head ≡ n.number
  pub check : IsPairedCheck n.named n.graph n.shapes net c.verdict.looks c.pairs
  pub named : AllByRecursion (λ look. AreNamed n.named (looked_at look)) c.verdict.looks

-- The transaction was checked at this version, which is kept; of one that stages shapes nothing is.
abbrev pub Checks : Bool → Snapshot → OpenTransaction → OpenTransaction → Type 0
Checks true n old new = (old.transaction.staged ≡ None) × ((c : CheckedNet) × IsCheckAt n old.transaction.net c × (new ≡ record old { checked = Some c }))
Checks false n old new = (old.transaction.staged ≢ None) × (new ≡ record old { checked = None })

-- How many evaluations that takes: one for each pair that the changes touch and that is a target after them; none where shapes
-- are staged.
abbrev pub CheckSteps : Snapshot → Transaction → ℕ → ℕ → Type 0
CheckSteps n x old new = MatchOption x.staged (GrowsByCount (IsEvaluated n.graph n.shapes x.net) old new) (λ staged. new ≡ old)

-- the snapshot is of a version of the history that these events make from a state under the limits
pub record IsVersionIn (l : Limits) (start : State) (events : List Event) (n : Snapshot) : Type 0 where
  pub front : List Event
  pub back : List Event
  pub history : events ≡ front ++ back
  pub state : State
  pub replays : Replays l start front state
  pub is : n ≡ snapshot_of l.mode state

-- it is what a check of the changes found at a version of the history
pub record IsKept (l : Limits) (start : State) (events : List Event) (net : List Change) (c : CheckedNet) : Type 0 where
  pub at : Snapshot
  pub version : IsVersionIn l start events at
  pub found : IsCheckAt at net c

abbrev pub KeepsIn : Limits → State → List Event → List Change → Option CheckedNet → Type 0
KeepsIn l start events net None = Unit {0}
KeepsIn l start events net (Some c) = IsKept l start events net c

-- what is kept of a check of the open transaction, if there is one
abbrev pub checked_in : Option OpenTransaction → Option CheckedNet
checked_in None = None
checked_in (Some w) = w.checked
