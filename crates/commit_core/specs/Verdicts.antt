-- What a check beside the store found, and what a commit asks of it.
use Rattle.std.specs.Prelude.{◌≡◌, ◌++◌, List, Option, Some, None}
use Rattle.rdf_model.specs.declared.change.Change.{Change}
use Rattle.rdf_model.specs.declared.look.Look.{Look}
use Rattle.rdf_model.specs.declared.term.Term.{Term}
use Rattle.rdf_model.specs.declared.triple.Triple.{Triple}
use Rattle.store_model.specs.declared.commit.Accepted.{Accepted}
use Rattle.store_model.specs.declared.commit.Transaction.{Transaction}
use Rattle.store_model.specs.declared.commit.Verdict.{Verdict}
use Rattle.store_model.specs.declared.event.Event.{Event}
use Rattle.store_model.specs.declared.event.Limits.{Limits}
use Rattle.store_model.specs.Store.{RecordedStore, Replays, State, again, version}
use Rattle.change_laws.specs.Pairs.{IsCheckFootprint}
use Rattle.kept_rows.specs.declared.pair_rows.PairRows.{PairRows}
use Rattle.kept_rows.specs.Laws.{ChecksPairs}
use Rattle.commit_core.specs.declared.commit.Reasons.{Reasons}

-- The changes of the graph g were checked under the shapes s: the looks are just those that a check of them makes, and the pairs are
-- those that they touch, each with its results after them.
pub record IsPairedCheck (terms : List Term) (g s : List Triple) (net : List Change) (looked : List (Look Term)) (pairs : List PairRows) : Type 0 where
  pub looks : IsCheckFootprint g s net looked
  pub checks : ChecksPairs terms g s net pairs

-- The verdict is of these changes at its head, which is a version of the history that these events make from a state under the
-- limits: its looks are just those of checking them there, and the pairs are those that they touch there, each with its results
-- after them.
pub record IsVerdictIn (l : Limits) (start : State) (events : List Event) (net : List Change) (verdict : Verdict) (pairs : List PairRows) : Type 0 where
  pub front : List Event
  pub back : List Event
  pub history : events ≡ front ++ back
  pub head : State
  pub replays : Replays l start front head
  pub number : verdict.head ≡ version head
  pub check : IsPairedCheck head.named head.graph head.shapes net verdict.looks pairs

-- the pairs are those of the transaction's verdict, if it has one
abbrev pub AreOfVerdictIn : Limits → State → List Event → List Change → Option Verdict → List PairRows → Type 0
AreOfVerdictIn l start events net None pairs = Unit {0}
AreOfVerdictIn l start events net (Some verdict) pairs = IsVerdictIn l start events net verdict pairs

-- the same in the history of a store
abbrev pub IsVerdict : RecordedStore → List Change → Verdict → List PairRows → Type 0
IsVerdict s net verdict pairs = IsVerdictIn s.limits s.start s.history net verdict pairs

abbrev pub AreOfVerdict : RecordedStore → List Change → Option Verdict → List PairRows → Type 0
AreOfVerdict s net verdict pairs = AreOfVerdictIn s.limits s.start s.history net verdict pairs

-- why the transaction is evaluated, twice
abbrev pub AreReasons : List Accepted → Transaction → Reasons → Type 0
AreReasons commits x r = (r.answer ≡ again commits x.staged x.verdict) × (r.recorded ≡ r.answer)

-- what is known of a transaction whose verdict held: it stages no shapes, and the pairs are those that its changes touch in the
-- store as it is now, with their results after them
pub record IsHeld (s : RecordedStore) (x : Transaction) (pairs : List PairRows) : Type 0 where
  pub unstaged : x.staged ≡ None
  pub checks : ChecksPairs s.state.named s.state.graph s.state.shapes x.net pairs
