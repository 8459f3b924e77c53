-- Pairs of a shape and a focus node by the numbers of their terms.
use Rattle.std.specs.Prelude.{◌≡◌, ℕ, List}
use Rattle.rdf_model.specs.declared.change.Change.{Change}
use Rattle.rdf_model.specs.declared.triple.Triple.{Triple}
use Rattle.shape_model.specs.declared.result_row.ResultRow.{ResultRow}
use Rattle.shape_model.specs.Validation.{Listing}
use Rattle.shape_ast.specs.declared.shape.Shape.{Shape}
use Rattle.shape_eval.specs.Told.{node_at}
use Rattle.parallel_validate.specs.declared.pairs.CheckedRows.{CheckedRows}
use Rattle.kept_rows.specs.declared.pair_rows.PairRows.{PairRows}
use Rattle.kept_rows.specs.Laws.{ChecksPairs}
use Rattle.data_graph.specs.DataGraphs.{NamedGraph, with_changes}

-- the pair whose shape stands at the place, with the number of the shape's node
abbrev pub numbered : List (Shape ℕ) → CheckedRows → PairRows
numbered shapes c = record { shape = node_at shapes c.shape; focus = c.focus; rows = c.rows }

-- the graph h is g after some changes, and the pairs are those that these touch, with their results after them
abbrev pub IsAfterCheck : NamedGraph → NamedGraph → List PairRows → Type 0
IsAfterCheck g h pairs = (net : List Change) × (h ≡ with_changes g net) × ChecksPairs g.terms g.triples g.shapes net pairs

-- validating the data graph has a listing
abbrev pub HasListing : List Triple → List Triple → Type 0
HasListing g s = (rows : List ResultRow) × Listing g s rows
