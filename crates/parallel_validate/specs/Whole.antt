-- When a list of results is that of a whole graph, for each shapes graph that compiled shapes stand for.
use Rattle.std.specs.Prelude.{ℕ, List, take}
use Rattle.rdf_model.specs.declared.term.Term.{Term}
use Rattle.rdf_model.specs.declared.triple.Triple.{Triple}
use Rattle.rdf_model.specs.declared.ids.Ids.{Ids}
use Rattle.rdf_model.specs.Numbers.{graph_of, term_at}
use Rattle.shape_model.specs.Limits.{levels_limit}
use Rattle.shape_model.specs.declared.result_row.ResultRow.{ResultRow}
use Rattle.shape_model.specs.Readings.{IsAcyclic, IsShallow}
use Rattle.shape_model.specs.Targets.{Target}
use Rattle.shape_model.specs.Validation.{At, Listing}
use Rattle.component_rows.specs.Listed.{Collects}
use Rattle.shape_ast.specs.declared.shape.Shape.{Shape}
use Rattle.shape_ast.specs.Readings.{named_shapes}
use Rattle.shape_ast.specs.Standing.{StandFor}
use Rattle.shape_eval.specs.Results.{AtPlace}
use Rattle.shape_eval.specs.ShapeRows.{FromSome}

-- a result of a shape at one of its targets (SHACL 3.4)
abbrev pub IsResultOf : List Triple → List Triple → Term → ResultRow → Type 0
IsResultOf g s shape r = (f : Term) × Target g s shape f × At g s shape f r

-- the results of the shape at the place k, at the nodes with these numbers
abbrev pub CollectsAtNodes : List Term → List Ids → List (Shape ℕ) → ℕ → List ℕ → List ResultRow → Type 0
CollectsAtNodes terms ids shapes k nodes rows =
    AtPlace terms shapes k (λ s c. IsAcyclic s → IsShallow levels_limit s → Collects (FromSome nodes (λ n. At (graph_of terms ids) s c.node (term_at terms n))) rows)

-- the same at its targets
abbrev pub CollectsOfShape : List Term → List Ids → List (Shape ℕ) → ℕ → List ResultRow → Type 0
CollectsOfShape terms ids shapes k rows = AtPlace terms shapes k (λ s c. IsAcyclic s → IsShallow levels_limit s → Collects (IsResultOf (graph_of terms ids) s c.node) rows)

-- the same of the first shapes
abbrev pub CollectsResults : List Term → List Ids → List (Shape ℕ) → ℕ → List ResultRow → Type 0
CollectsResults terms ids shapes k rows = (s : List Triple) → StandFor (named_shapes terms shapes) s → IsAcyclic s → IsShallow levels_limit s
    → Collects (FromSome (take k (named_shapes terms shapes)) (λ c. IsResultOf (graph_of terms ids) s c.node)) rows

-- the results of the graph, each once, in order (SHACL 3.6)
abbrev pub ListsGraph : List Term → List Ids → List (Shape ℕ) → List ResultRow → Type 0
ListsGraph terms ids shapes rows = (s : List Triple) → StandFor (named_shapes terms shapes) s → IsAcyclic s → IsShallow levels_limit s → Listing (graph_of terms ids) s rows
