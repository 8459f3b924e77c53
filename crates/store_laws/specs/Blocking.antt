-- Which results block.
use Rattle.std.specs.Prelude.{◌≡◌, ◌↔◌, false, List, [], ◌∷◌}
use Rattle.rdf_model.specs.declared.triple.Triple.{Triple}
use Rattle.shape_model.specs.declared.result_row.ResultRow.{ResultRow}
use Rattle.shape_model.specs.Validation.{Listing, NoResult}
use Rattle.store_model.specs.declared.commit.Transaction.{Transaction}
use Rattle.store_model.specs.declared.event.BlockMode.{BlockMode}
use Rattle.store_model.specs.declared.event.BlockMode.TheVariants.{All}
use Rattle.store_model.specs.declared.event.Event.{Event}
use Rattle.store_model.specs.declared.event.Limits.{Limits}
use Rattle.store_model.specs.declared.event.Reply.{Reply}
use Rattle.store_model.specs.declared.event.Reply.TheVariants.{Refused}
use Rattle.store_model.specs.Blocking.{has_blocking, NoBlocking}
use Rattle.store_model.specs.Store.{State, Replays, Replies, AcceptsCommit, CommitsByRows, again}

-- No result of a graph blocks exactly where none of its listing does.
abbrev pub ListingsTellBlocking : Type 0
ListingsTellBlocking = (mode : BlockMode) (g s : List Triple) (rows : List ResultRow) → Listing g s rows → NoBlocking mode g s ↔ (has_blocking mode s rows ≡ false)

-- Where all results block, none blocks exactly where there is none.
abbrev pub NoBlockingIsNoResult : Type 0
NoBlockingIsNoResult = (g s : List Triple) → NoBlocking All g s ↔ NoResult g s

-- a commit by the results of the graph that would be, where all block: it is accepted where there is none
abbrev pub CommitsByAnyRow : State → Transaction → List ResultRow → Reply → State → Type 0
CommitsByAnyRow s x [] r t = AcceptsCommit s x r t
CommitsByAnyRow s x (row ∷ rows) r t = Replies (Refused (row ∷ rows) (again s.commits x.staged x.verdict)) s r t

abbrev pub RowsRefuseAll : Type 0
RowsRefuseAll = (l : Limits) (s t : State) (x : Transaction) (rows : List ResultRow) (r : Reply) → l.mode ≡ All → CommitsByRows l s x rows r t ↔ CommitsByAnyRow s x rows r t

-- Where no result blocks at the beginning of a history, none does in any state of it.
abbrev pub NoBlockingStays : Type 0
NoBlockingStays = (l : Limits) (s t : State) (es : List Event) → Replays l s es t → NoBlocking l.mode s.graph s.shapes → NoBlocking l.mode t.graph t.shapes
