-- The targets of a shape (SHACL 2.1.3) and the looks that decide them, for each shapes graph that bound shapes stand for.
use Rattle.std.specs.Prelude.{◌≡◌, ◌↔◌, ◌<◌, ℕ, Bool, List, Some, length, map, slice_get, IsTrue}
use Rattle.std.specs.List.{Contains}
use Rattle.std.specs.Ordering.{nat_cmp}
use Rattle.collections.specs.Listings.{IsListing}
use Rattle.rdf_model.specs.declared.term.Term.{Term}
use Rattle.rdf_model.specs.declared.triple.Triple.{Triple}
use Rattle.rdf_model.specs.declared.ids.Ids.{Ids}
use Rattle.rdf_model.specs.declared.look.Look.{Look}
use Rattle.rdf_model.specs.Numbers.{term_at, graph_of, IsNumbering, AreNumbered}
use Rattle.shape_model.specs.Readings.{reading}
use Rattle.shape_model.specs.Targets.{Target}
use Rattle.shape_model.specs.ShapeLooks.{TargetLook}
use Rattle.shape_model.specs.NodeLooks.{IsLook}
use Rattle.path_eval.specs.declared.instances.ClassWords.{ClassWords}
use Rattle.path_eval.specs.Instances.{AreClassWords}
use Rattle.path_eval.specs.Naming.{AddsLooks}
use Rattle.shape_ast.specs.declared.shape.Shape.{Shape}
use Rattle.shape_ast.specs.Readings.{AreBound, ReadShape, named_shapes}
use Rattle.shape_ast.specs.Standing.{StandFor}

-- in whatever way the graph, the words and the shapes are numbered
abbrev pub NumberedShapes : List Ids → ClassWords → List (Shape ℕ) → (List Term → Type 0) → Type 0
NumberedShapes ids words shapes P = (terms : List Term) → IsNumbering terms → AreNumbered terms ids → AreClassWords terms words → AreBound terms shapes → P terms

-- for each shapes graph that the shapes stand for, P holds of it and of its shape that stands at the place
abbrev pub AtShape : List Term → List (Shape ℕ) → ℕ → (List Triple → Term → Type 0) → Type 0
AtShape terms shapes k P = (s : List Triple) (c : ReadShape) → StandFor (named_shapes terms shapes) s → slice_get (named_shapes terms shapes) k ≡ Some c → P s c.node

-- the numbers of just the targets of the shape, each once, ascending; each target has a number
pub record AreTargets (terms : List Term) (ids : List Ids) (s : List Triple) (shape : Term) (numbers : List ℕ) : Type 0 where
  pub listed : IsListing nat_cmp (λ n. (n < length terms) × Target (graph_of terms ids) s shape (term_at terms n)) numbers
  pub every : (f : Term) → Target (graph_of terms ids) s shape f → Contains (map (term_at terms) numbers) f

-- whether the node, which has a number, is one
abbrev pub IsTargetAnswer : List Term → List Ids → List Triple → Term → ℕ → Bool → Type 0
IsTargetAnswer terms ids s shape node answer = node < length terms → IsTrue answer ↔ Target (graph_of terms ids) s shape (term_at terms node)

-- just the looks of the shape's targets at the node have been added
abbrev pub AddsTargetLooks : List Term → List Ids → List Triple → Term → ℕ → List (Look ℕ) → List (Look ℕ) → Type 0
AddsTargetLooks terms ids s shape node old new = node < length terms → AddsLooks terms (IsLook (graph_of terms ids) (TargetLook (reading s shape)) (term_at terms node)) old new
