-- When a list of results is what a shape gives at a focus node.
use Rattle.std.specs.Prelude.{◌≡◌, ℕ, List, Some, slice_get}
use Rattle.collections.specs.Listings.{IsListing}
use Rattle.rdf_model.specs.declared.term.Term.{Term}
use Rattle.rdf_model.specs.declared.triple.Triple.{Triple}
use Rattle.rdf_model.specs.declared.ids.Ids.{Ids}
use Rattle.rdf_model.specs.Numbers.{term_at, graph_of}
use Rattle.shape_model.specs.declared.result_row.ResultRow.{ResultRow}
use Rattle.shape_model.specs.Limits.{levels_limit}
use Rattle.shape_model.specs.Readings.{IsAcyclic, IsShallow, reading}
use Rattle.shape_model.specs.Rows.{result_row_cmp}
use Rattle.shape_model.specs.Validation.{At, AtDepth}
use Rattle.component_rows.specs.Listed.{Collects}
use Rattle.component_rows.specs.Nodes.{HasNode}
use Rattle.shape_ast.specs.declared.shape.Shape.{Shape}
use Rattle.shape_ast.specs.Readings.{ReadShape, named_shapes}
use Rattle.shape_ast.specs.Standing.{StandFor}

-- for each shapes graph that the shapes stand for, P holds of it and of the shape at the place
abbrev pub AtPlace : List Term → List (Shape ℕ) → ℕ → (List Triple → ReadShape → Type 0) → Type 0
AtPlace terms shapes n P = (s : List Triple) (c : ReadShape) → StandFor (named_shapes terms shapes) s → slice_get (named_shapes terms shapes) n ≡ Some c → P s c

-- The rows are exactly the results (SHACL 3.4) of the shape at the place n at the focus node f, each once, in the order
-- of results, for each shapes graph that the shapes stand for, in which no shape refers to itself and no chain of
-- references is longer than the limit.
abbrev pub ListsResults : List Term → List Ids → List (Shape ℕ) → ℕ → ℕ → List ResultRow → Type 0
ListsResults terms ids shapes n f rows = AtPlace terms shapes n (λ s c. IsAcyclic s → IsShallow levels_limit s → IsListing result_row_cmp (At (graph_of terms ids) s c.node (term_at terms f)) rows)

-- the rows are those of the shape at the place through chains of fewer references than the depth, in any order, at one
-- focus node, and at each of some value nodes
abbrev pub CollectsAt : List Term → List Ids → List (Shape ℕ) → ℕ → ℕ → ℕ → List ResultRow → Type 0
CollectsAt terms ids shapes depth n f rows = AtPlace terms shapes n (λ s c. Collects (AtDepth depth (graph_of terms ids) (reading s) c.node (term_at terms f)) rows)

abbrev pub CollectsAtEach : List Term → List Ids → List (Shape ℕ) → ℕ → ℕ → List ℕ → List ResultRow → Type 0
CollectsAtEach terms ids shapes depth n values rows =
    AtPlace terms shapes n (λ s c. Collects (λ r. (v : Term) × HasNode terms values v × AtDepth depth (graph_of terms ids) (reading s) c.node v r) rows)
