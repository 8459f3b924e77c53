-- Whether a graph has a result that blocks, by its listing or by the pairs that changes touch.
use Rattle.std.proofs.Common.{◌≡◌, ◌∙◌, Bool, true, false, List, refl, sym, subst}
use Rattle.rdf_model.specs.declared.change.Change.{Change}
use Rattle.rdf_model.specs.declared.term.Term.{Term}
use Rattle.rdf_model.specs.declared.triple.Triple.{Triple}
use Rattle.rdf_model.specs.Graphs.{after}
use Rattle.shape_model.specs.declared.result_row.ResultRow.{ResultRow}
use Rattle.shape_model.specs.Validation.{Listing}
use Rattle.store_model.specs.declared.event.BlockMode.{BlockMode}
use Rattle.store_model.specs.Blocking.{NoBlocking, has_blocking}
use Rattle.store_model.proofs.Blocking.{NoBlocking-listed}
use Rattle.kept_rows.specs.declared.pair_rows.PairRows.{PairRows}
use Rattle.kept_rows.specs.Laws.{ChecksPairs}
use Rattle.blocking.specs.Sources.{HaveShapes, some_blocks}
use Rattle.blocking.proofs.Blocking.{nothing_blocks, something_blocks}
use Rattle.blocking.proofs.Sources.{source_shape}
use Rattle.data_graph.specs.Pairs.{HasListing}
use Rattle.commit_core.specs.Outcomes.{HasBlocking, TellsBlocking}

-- the source of each result of a listing is a shape
pub listed_shapes : (g s : List Triple) (rows : List ResultRow) → Listing g s rows → HaveShapes s rows
listed_shapes g s rows l row c = source_shape g s row ((l.members row).0 c)

-- by whether one of the listing does
pub listing_tells : (mode : BlockMode) (g s : List Triple) (rows : List ResultRow) (blocks : Bool) → Listing g s rows → blocks ≡ has_blocking mode s rows → TellsBlocking mode g s blocks
listing_tells mode g s rows true l e = (rows, l, sym e)
listing_tells mode g s rows false l e = (NoBlocking-listed mode g s rows l).1 (sym e)

-- by whether one of the touched pairs' does
pub pairs_tell : (mode : BlockMode) (terms : List Term) (g s : List Triple) (net : List Change) (pairs : List PairRows) (blocks : Bool) → NoBlocking mode g s → ChecksPairs terms g s net pairs → HasListing (after g net) s
    → blocks ≡ some_blocks mode s pairs → TellsBlocking mode (after g net) s blocks
pairs_tell mode terms g s net pairs true none checks l e = (l.0, l.1, (something_blocks mode terms g s net pairs checks).0 l.0 l.1 (sym e))
pairs_tell mode terms g s net pairs false none checks l e = nothing_blocks mode terms g s net pairs none checks (sym e)

-- where one blocks, one of the listing does
listed_by : (mode : BlockMode) (g s : List Triple) (rows : List ResultRow) (b : Bool) → HasBlocking mode g s → Listing g s rows → has_blocking mode s rows ≡ b → b ≡ true
listed_by mode g s rows true h l e = refl
listed_by mode g s rows false h l e =
    let none = (NoBlocking-listed mode g s rows l).1 e in
    sym ((NoBlocking-listed mode g s h.0 h.1).0 none) ∙ h.2

pub blocking_listed : (mode : BlockMode) (g s : List Triple) (rows : List ResultRow) (blocks : Bool) → TellsBlocking mode g s blocks → blocks ≡ true → Listing g s rows → has_blocking mode s rows ≡ true
blocking_listed mode g s rows blocks told e l = listed_by mode g s rows (has_blocking mode s rows) (subst (λ (b : Bool). TellsBlocking mode g s b) e told) l refl

pub none_listed : (mode : BlockMode) (g s : List Triple) (rows : List ResultRow) (blocks : Bool) → TellsBlocking mode g s blocks → blocks ≡ false → Listing g s rows → has_blocking mode s rows ≡ false
none_listed mode g s rows blocks told e l = (NoBlocking-listed mode g s rows l).0 (subst (λ (b : Bool). TellsBlocking mode g s b) e told)
