-- Whether a graph has a result that blocks.
use Rattle.std.specs.Prelude.{◌≡◌, Bool, true, List, MatchBool}
use Rattle.rdf_model.specs.declared.triple.Triple.{Triple}
use Rattle.shape_model.specs.declared.result_row.ResultRow.{ResultRow}
use Rattle.shape_model.specs.Validation.{Listing}
use Rattle.store_model.specs.declared.event.BlockMode.{BlockMode}
use Rattle.store_model.specs.Blocking.{NoBlocking, has_blocking}
use Rattle.data_graph.specs.DataGraphs.{NamedGraph}
use Rattle.commit_core.specs.declared.outcome.Outcome.{Outcome}

-- one of the results of validating the graph blocks
abbrev pub HasBlocking : BlockMode → List Triple → List Triple → Type 0
HasBlocking mode g s = (rows : List ResultRow) × Listing g s rows × (has_blocking mode s rows ≡ true)

-- whether one does
abbrev pub TellsBlocking : BlockMode → List Triple → List Triple → Bool → Type 0
TellsBlocking mode g s blocks = MatchBool blocks (HasBlocking mode g s) (NoBlocking mode g s)

-- this graph, and whether one of its results blocks
abbrev pub IsOutcome : BlockMode → NamedGraph → Outcome → Type 0
IsOutcome mode g o = (o.graph ≡ g) × TellsBlocking mode g.triples g.shapes o.blocks
