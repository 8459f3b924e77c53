-- Targets of a shape (SHACL 2.1.3) and the looks that decide them, by the numbers of their terms.
use Rattle.std.specs.Prelude.{◌↔◌, ◌<◌, ℕ, Bool, List, length, map, IsTrue}
use Rattle.std.specs.List.{All, Contains}
use Rattle.std.specs.Ordering.{nat_cmp}
use Rattle.collections.specs.Listings.{IsListing}
use Rattle.rdf_model.specs.declared.term.Term.{Term}
use Rattle.rdf_model.specs.declared.ids.Ids.{Ids}
use Rattle.rdf_model.specs.declared.look.Look.{Look}
use Rattle.rdf_model.specs.Numbers.{term_at, graph_of, IsNumbering, AreNumbered}
use Rattle.shape_model.specs.Targets.{TargetOf}
use Rattle.shape_model.specs.ShapeLooks.{TargetLook}
use Rattle.shape_model.specs.NodeLooks.{IsLook}
use Rattle.path_eval.specs.declared.instances.ClassWords.{ClassWords}
use Rattle.path_eval.specs.Instances.{AreClassWords}
use Rattle.path_eval.specs.Naming.{AddsLooks}
use Rattle.shape_ast.specs.declared.target.Target.{Target}
use Rattle.shape_ast.specs.Readings.{HoldsOfTarget}
use Rattle.target_nodes.specs.Declarations.{DecidesBy, DecidesBySome, IsTargetBy, IsTargetBySome, declared_reading}

-- the list has just the numbers of the terms of which P holds, in any order, each once or more; each such term has a number
pub record AreMembers (terms : List Term) (P : Term → Type 0) (numbers : List ℕ) : Type 0 where
  pub members : (n : ℕ) → Contains numbers n ↔ ((n < length terms) × P (term_at terms n))
  pub every : (t : Term) → P t → Contains (map (term_at terms) numbers) t

-- the numbers of just the targets of the shape, each once, ascending; each target has a number
pub record AreDeclaredTargets (terms : List Term) (ids : List Ids) (targets : List (Target ℕ)) (shape : ℕ) (numbers : List ℕ) : Type 0 where
  pub listed : IsListing nat_cmp (λ n. (n < length terms) × TargetOf (graph_of terms ids) (declared_reading terms targets) (term_at terms shape) (term_at terms n)) numbers
  pub every : (f : Term) → TargetOf (graph_of terms ids) (declared_reading terms targets) (term_at terms shape) f → Contains (map (term_at terms) numbers) f

-- whether the node is one
abbrev pub IsDeclaredAnswer : List Term → List Ids → List (Target ℕ) → ℕ → ℕ → Bool → Type 0
IsDeclaredAnswer terms ids targets shape node answer = IsTrue answer ↔ TargetOf (graph_of terms ids) (declared_reading terms targets) (term_at terms shape) (term_at terms node)

-- just the looks that decide it have been added
abbrev pub AddsDeclaredLooks : List Term → List Ids → List (Target ℕ) → ℕ → List (Look ℕ) → List (Look ℕ) → Type 0
AddsDeclaredLooks terms ids targets node old new = AddsLooks terms (IsLook (graph_of terms ids) (TargetLook (declared_reading terms targets)) (term_at terms node)) old new

-- the same by one declaration, and by any of several
pub record IsDecidedBy (terms : List Term) (ids : List Ids) (target : Target ℕ) (shape node : ℕ) (answer : Bool) (old new : List (Look ℕ)) : Type 0 where
  pub answered : IsTrue answer ↔ IsTargetBy terms (graph_of terms ids) (term_at terms shape) target (term_at terms node)
  pub looks : AddsLooks terms (DecidesBy terms (graph_of terms ids) target (term_at terms node)) old new

pub record IsDecidedBySome (terms : List Term) (ids : List Ids) (targets : List (Target ℕ)) (shape node : ℕ) (answer : Bool) (old new : List (Look ℕ)) : Type 0 where
  pub answered : IsTrue answer ↔ IsTargetBySome terms (graph_of terms ids) (term_at terms shape) targets (term_at terms node)
  pub looks : AddsLooks terms (DecidesBySome terms (graph_of terms ids) targets (term_at terms node)) old new

-- in whatever way the graph, the words, the declaration and the shape are numbered, and the node
abbrev pub ByOne : List Ids → ClassWords → Target ℕ → ℕ → (List Term → Type 0) → Type 0
ByOne ids words target shape P = (terms : List Term) → IsNumbering terms → AreNumbered terms ids → AreClassWords terms words → HoldsOfTarget (λ n. n < length terms) target → shape < length terms → P terms

abbrev pub AtNode : ℕ → (List Term → Type 0) → List Term → Type 0
AtNode node P terms = node < length terms → P terms

-- in whatever way the graph, the words, the declarations and the shape are numbered
abbrev pub Declared : List Ids → ClassWords → List (Target ℕ) → ℕ → (List Term → Type 0) → Type 0
Declared ids words targets shape P = (terms : List Term) → IsNumbering terms → AreNumbered terms ids → AreClassWords terms words → All (HoldsOfTarget (λ n. n < length terms)) targets → shape < length terms → P terms
