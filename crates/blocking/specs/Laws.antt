-- Whether changes leave a graph with a result that blocks, by the pairs that they touch.
use Rattle.std.specs.Prelude.{◌≡◌, false, true, List}
use Rattle.rdf_model.specs.declared.change.Change.{Change}
use Rattle.rdf_model.specs.declared.term.Term.{Term}
use Rattle.rdf_model.specs.declared.triple.Triple.{Triple}
use Rattle.rdf_model.specs.Graphs.{after}
use Rattle.shape_model.specs.declared.result_row.ResultRow.{ResultRow}
use Rattle.shape_model.specs.Validation.{Listing}
use Rattle.store_model.specs.declared.event.BlockMode.{BlockMode}
use Rattle.store_model.specs.Blocking.{NoBlocking, has_blocking}
use Rattle.kept_rows.specs.declared.pair_rows.PairRows.{PairRows}
use Rattle.kept_rows.specs.Laws.{ChecksPairs}
use Rattle.blocking.specs.Sources.{PairsHaveShapes, some_blocks}

-- Where no result of the graph blocked, and none of the touched pairs' results does, no result of the graph after the changes does.
abbrev pub NothingBlocksLaw : Type 0
NothingBlocksLaw = (mode : BlockMode) (terms : List Term) (g s : List Triple) (net : List Change) (pairs : List PairRows) → NoBlocking mode g s → ChecksPairs terms g s net pairs
    → some_blocks mode s pairs ≡ false → NoBlocking mode (after g net) s

-- Where a result of a touched pair blocks, so does one of the listing after the changes. The results of touched pairs have shapes of
-- the shapes graph as their sources.
abbrev pub SomethingBlocksLaw : Type 0
SomethingBlocksLaw = (mode : BlockMode) (terms : List Term) (g s : List Triple) (net : List Change) (pairs : List PairRows) → ChecksPairs terms g s net pairs
    → ((rows : List ResultRow) → Listing (after g net) s rows → some_blocks mode s pairs ≡ true → has_blocking mode s rows ≡ true) × PairsHaveShapes s pairs
