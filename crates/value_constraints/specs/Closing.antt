-- Triples of value nodes that a closed shape doesn't allow (SHACL 4.8.1).
use Rattle.std.specs.Prelude.{◌≡◌, ℕ, List}
use Rattle.std.specs.List.{Contains}
use Rattle.rdf_model.specs.declared.term.Term.{Term}
use Rattle.rdf_model.specs.declared.ids.Ids.{Ids}
use Rattle.rdf_model.specs.Numbers.{term_at, graph_of, IsEdge}
use Rattle.shape_model.specs.declared.result_row.ResultRow.{ResultRow}
use Rattle.shape_model.specs.Components.{Finding, Surroundings}
use Rattle.shape_model.specs.Triples.{Has}
use Rattle.component_rows.specs.Listed.{at_nodes, found_with}
use Rattle.component_rows.specs.Nodes.{HasNode}

-- the surroundings in which the value nodes and the triples of the graph are told
abbrev pub in_graph : List Term → List Ids → List ℕ → Surroundings
in_graph terms ids values = record (at_nodes (HasNode terms values)) { triple = Has (graph_of terms ids) }

-- the result of an edge of the value node, where its predicate is none of those allowed
abbrev pub ForbiddenEdge : List Term → (Finding → ResultRow) → List ℕ → ℕ → ℕ × ℕ → ResultRow → Type 0
ForbiddenEdge terms row allowed value e r = (Contains allowed e.0 → ⊥) × (r ≡ row (found_with (term_at terms value) (term_at terms e.1) (term_at terms e.0)))

-- the results of some edges of the value node
abbrev pub ForbiddenAt : List Term → (Finding → ResultRow) → List ℕ → ℕ → List (ℕ × ℕ) → ResultRow → Type 0
ForbiddenAt terms row allowed value edges r = (e : ℕ × ℕ) × Contains edges e × ForbiddenEdge terms row allowed value e r

-- the results of all triples of a value node, and of some nodes
abbrev pub ForbiddenOf : List Term → List Ids → (Finding → ResultRow) → List ℕ → ℕ → ResultRow → Type 0
ForbiddenOf terms ids row allowed value r = (e : ℕ × ℕ) × IsEdge ids value e × ForbiddenEdge terms row allowed value e r

abbrev pub ForbiddenOfSome : List Term → List Ids → (Finding → ResultRow) → List ℕ → List ℕ → ResultRow → Type 0
ForbiddenOfSome terms ids row allowed values r = (value : ℕ) × Contains values value × ForbiddenOf terms ids row allowed value r
