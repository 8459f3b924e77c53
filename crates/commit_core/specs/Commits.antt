-- What a commit is answered, and what it plans.
use Rattle.std.specs.Prelude.{◌≡◌, ◌<◌, ◌≤◌, ℕ, true, false, List, [], length, map, Some, None}
use Rattle.std.specs.List.{AllByRecursion}
use Rattle.rdf_model.specs.declared.triple.Triple.{Triple}
use Rattle.rdf_model.specs.declared.change.Change.{Change}
use Rattle.rdf_model.specs.declared.ids.Ids.{Ids}
use Rattle.rdf_model.specs.Graphs.{after, differing, with_each}
use Rattle.rdf_model.specs.Numbers.{AreNumbered, graph_of}
use Rattle.shape_model.specs.declared.result_row.ResultRow.{ResultRow}
use Rattle.shape_model.specs.Validation.{Listing}
use Rattle.store_model.specs.declared.event.BlockMode.{BlockMode}
use Rattle.store_model.specs.declared.event.Limits.{Limits}
use Rattle.store_model.specs.declared.commit.Accepted.{Accepted}
use Rattle.store_model.specs.declared.commit.Transaction.{Transaction}
use Rattle.store_model.specs.declared.event.Action.TheVariants as actions
use Rattle.store_model.specs.declared.event.Reply.{Reply}
use Rattle.store_model.specs.declared.event.Reply.TheVariants as replies
use Rattle.store_model.specs.Blocking.{has_blocking}
use Rattle.store_model.specs.Store.{RecordedStore, TakesStep, is_staged, overtaker, shapes_under}
use Rattle.triple_index.specs.Changes.{IsNumberedChange, change_at}
use Rattle.triple_index.specs.declared.change.NumberedChange.{NumberedChange}
use Rattle.data_graph.specs.DataGraphs.{NamedGraph, with_changes, with_shapes}
use Rattle.commit_core.specs.declared.commit.CheckedTransaction.{CheckedTransaction}
use Rattle.commit_core.specs.declared.commit.Commit.{Commit}
use Rattle.commit_core.specs.declared.commit.Commit.TheVariants.{Done, Conflict, FullTriples, Refused, LogFault, Stopped, Memory}
use Rattle.commit_core.specs.declared.commit.Acceptance.{Acceptance}
use Rattle.commit_core.specs.declared.commit.Plan.{Plan}
use Rattle.commit_core.specs.declared.commit.Refusal.{Refusal}
use Rattle.commit_core.specs.declared.commit.Plan.TheVariants.{Overtaken, TooLarge, Refuse, Accept}

-- the commit is a step with this reply, which the history has
abbrev pub TakesCommit : RecordedStore → RecordedStore → ℕ → Transaction → Reply → Type 0
TakesCommit old new i x r = TakesStep old new (record { session = i; action = actions.Commit x; reply = r })

-- The answer is the plain store's reply to this commit; want of memory changes nothing. The rows of a refusal are the
-- listing of the graph that would be, under the staged shapes or else the newest.
abbrev pub Answers : Commit → RecordedStore → RecordedStore → ℕ → CheckedTransaction → Type 0
Answers (Done number again) old new i x = TakesCommit old new i x.transaction (replies.Done number again)
Answers (Conflict commit triple) old new i x = TakesCommit old new i x.transaction (replies.Conflict commit triple)
Answers (FullTriples count) old new i x = TakesCommit old new i x.transaction (replies.FullTriples count)
Answers (Refused rows again shapes) old new i x =
    TakesCommit old new i x.transaction (replies.Refused rows again) × (shapes ≡ shapes_under old.state.shapes x.transaction.staged) × Listing (after old.state.graph x.transaction.net) shapes rows
Answers LogFault old new i x = TakesCommit old new i x.transaction replies.LogFault
Answers (Stopped version) old new i x = TakesCommit old new i x.transaction (replies.Stopped version)
Answers (Memory y) old new i x = (y ≡ x) × (new ≡ old)

-- no log failed
abbrev pub HasNoFault : Commit → Type 0
HasNoFault LogFault = ⊥
HasNoFault c = Unit {0}

-- a commit that is refused for its results
abbrev pub IsRefusal : Commit → Type 0
IsRefusal (Refused rows again shapes) = Unit {0}
IsRefusal c = ⊥

-- the data graph of a store, with its names
abbrev pub data_of : RecordedStore → NamedGraph
data_of s = record { triples = s.state.graph; shapes = s.state.shapes; terms = s.state.named; limit = s.limits.terms }

-- the data graph that a commit would make: after its changes, under the staged shapes or else its own
abbrev pub committed_graph : NamedGraph → Transaction → NamedGraph
committed_graph g x = with_shapes (with_changes g x.net) (shapes_under g.shapes x.staged)

-- nothing overtook the transaction, and the graph would be within the limit
abbrev pub IsWithin : Limits → List Triple → List Accepted → Transaction → Type 0
IsWithin l graph commits x = (overtaker commits x.base x.finds ≡ None) × (length (after graph x.net) ≤ l.triples)

-- the graph would have these results, of which one blocks
abbrev pub Refuses : BlockMode → List Triple → List Triple → Transaction → Refusal → Type 0
Refuses mode graph shapes x p = (p.shapes ≡ shapes_under shapes x.staged) × Listing (after graph x.net) p.shapes p.rows × (has_blocking mode p.shapes p.rows ≡ true) × (p.recorded ≡ p.rows)

-- none of the results that the graph would have blocks
abbrev pub NoneBlocks : BlockMode → NamedGraph → Transaction → Type 0
NoneBlocks mode g x = (rows : List ResultRow) × Listing (after g.triples x.net) (shapes_under g.shapes x.staged) rows × (has_blocking mode (shapes_under g.shapes x.staged) rows ≡ false)

-- the triples of the numbers are those that are in exactly one of the graph and the graph after the changes, and each number has a term
abbrev pub AreChanged : NamedGraph → List Change → List Ids → Type 0
AreChanged g net ids = (with_each [] (graph_of g.terms ids) ≡ differing g.triples (after g.triples net)) × AreNumbered g.terms ids

-- the changes are those of the numbers, and each number has a term
abbrev pub AreNumberedChanges : NamedGraph → List Change → List NumberedChange → Type 0
AreNumberedChanges g net numbered = (map (change_at g.terms) numbered ≡ net) × AllByRecursion (IsNumberedChange g.terms) numbered

abbrev pub Accepts : BlockMode → NamedGraph → Transaction → Acceptance → Type 0
Accepts mode g x p = NoneBlocks mode g x × (p.graph ≡ committed_graph g x) × AreChanged g x.net p.changed.items × (p.staged ≡ is_staged x.staged) × AreNumberedChanges g x.net p.net.items

-- what its listing makes of a commit that nothing overtook and that is within the limit
abbrev pub IsJudged : BlockMode → NamedGraph → Transaction → Plan → Type 0
IsJudged mode g x (Overtaken o t) = ⊥
IsJudged mode g x (TooLarge n) = ⊥
IsJudged mode g x (Refuse p) = Refuses mode g.triples g.shapes x p
IsJudged mode g x (Accept p) = Accepts mode g x p

-- the first of a commit's answers that applies, and what is needed to carry it out
abbrev pub IsPlan : Limits → NamedGraph → List Accepted → Transaction → Plan → Type 0
IsPlan l g commits x (Overtaken o t) = (overtaker commits x.base x.finds ≡ Some o) × (t ≡ o.triple)
IsPlan l g commits x (TooLarge n) = (overtaker commits x.base x.finds ≡ None) × (l.triples < length (after g.triples x.net)) × (n ≡ length (after g.triples x.net))
IsPlan l g commits x (Refuse p) = IsWithin l g.triples commits x × Refuses l.mode g.triples g.shapes x p
IsPlan l g commits x (Accept p) = IsWithin l g.triples commits x × Accepts l.mode g x p
