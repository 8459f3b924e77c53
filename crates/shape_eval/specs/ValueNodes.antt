-- The value nodes of a compiled shape (SHACL 3.7), by terms and by the numbers of terms.
use Rattle.std.specs.Prelude.{◌≡◌, ◌↔◌, ◌<◌, ℕ, List, length, Option, Some, None}
use Rattle.rdf_model.specs.declared.term.Term.{Term}
use Rattle.rdf_model.specs.declared.triple.Triple.{Triple}
use Rattle.rdf_model.specs.declared.ids.Ids.{Ids}
use Rattle.rdf_model.specs.Numbers.{term_at, graph_of, IsNumbering, AreNumbered}
use Rattle.shape_model.specs.Paths.{Path as DefinedPath}
use Rattle.shape_model.specs.Walks.{Walk}
use Rattle.component_rows.specs.Nodes.{AreNodes, HasNode}
use Rattle.path_ast.specs.declared.path.Path.{Path}
use Rattle.path_ast.specs.PathReadings.{IsBoundOptional}
use Rattle.shape_ast.specs.Readings.{read_optional_path}

-- the focus node itself without a path, else the nodes to which it walks along the path
abbrev pub IsValueNode : List Triple → Option DefinedPath → Term → Term → Type 0
IsValueNode g None f v = f ≡ v
IsValueNode g (Some p) f v = Walk g p f v

-- the numbers are those of just the value nodes at the focus node
pub record AreValueNodes (terms : List Term) (ids : List Ids) (path : Option (Path ℕ)) (f : ℕ) (numbers : List ℕ) : Type 0 where
  pub nodes : AreNodes terms numbers
  pub each : (v : Term) → HasNode terms numbers v ↔ IsValueNode (graph_of terms ids) (read_optional_path (term_at terms) path) (term_at terms f) v

-- in whatever way the graph, the path and the focus node are numbered
abbrev pub AtNumbers : List Ids → Option (Path ℕ) → ℕ → (List Term → Type 0) → Type 0
AtNumbers ids path f P = (terms : List Term) → IsNumbering terms → AreNumbered terms ids → IsBoundOptional (length terms) path → f < length terms → P terms
