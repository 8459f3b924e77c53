-- Results whose source shapes are shapes of the shapes graph.
use Rattle.std.specs.Prelude.{Bool, List}
use Rattle.std.specs.List.{Contains, list_any}
use Rattle.rdf_model.specs.declared.triple.Triple.{Triple}
use Rattle.shape_model.specs.declared.result_row.ResultRow.{ResultRow}
use Rattle.shape_model.specs.ShapeSyntax.{IsShape}
use Rattle.store_model.specs.declared.event.BlockMode.{BlockMode}
use Rattle.store_model.specs.Blocking.{has_blocking}
use Rattle.kept_rows.specs.declared.pair_rows.PairRows.{PairRows}

abbrev pub HaveShapes : List Triple → List ResultRow → Type 0
HaveShapes s rows = (row : ResultRow) → Contains rows row → IsShape s row.source_shape

-- the same of the results of pairs
abbrev pub PairsHaveShapes : List Triple → List PairRows → Type 0
PairsHaveShapes s pairs = (p : PairRows) → Contains pairs p → HaveShapes s p.rows

-- whether a result of one of the pairs blocks
abbrev pub some_blocks : BlockMode → List Triple → List PairRows → Bool
some_blocks mode s pairs = list_any (λ (p : PairRows). has_blocking mode s p.rows) pairs
