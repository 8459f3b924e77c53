-- How many evaluations a validation makes.
use Rattle.std.specs.Prelude.{◌≡◌, ◌+◌, ◌↔◌, ℕ, List, [], ◌∷◌, length, take}
use Rattle.std.specs.List.{Contains}
use Rattle.rdf_model.specs.declared.term.Term.{Term}
use Rattle.rdf_model.specs.declared.triple.Triple.{Triple}
use Rattle.rdf_model.specs.declared.ids.Ids.{Ids}
use Rattle.rdf_model.specs.Numbers.{graph_of}
use Rattle.shape_model.specs.Targets.{Target}
use Rattle.shape_ast.specs.declared.shape.Shape.{Shape}
use Rattle.shape_ast.specs.Readings.{ReadShape, named_shapes}
use Rattle.shape_ast.specs.Standing.{StandFor}
use Rattle.shape_eval.specs.Results.{AtPlace}

-- no item stands twice
abbrev pub IsApart : {X : Type 0} → List X → Type 0
IsApart [] = Unit {0}
IsApart (x ∷ xs) = (Contains xs x → ⊥) × IsApart xs

-- P holds of so many: a list of that length has each of them once, and no other
pub record IsCount {X : Type 0} (P : X → Type 0) (n : ℕ) : Type 0 where
  pub items : List X
  pub apart : IsApart items
  pub members : (x : X) → Contains items x ↔ P x
  pub count : length items ≡ n

-- the number has grown by how many they are
abbrev pub GrowsByCount : {X : Type 0} → (X → Type 0) → ℕ → ℕ → Type 0
GrowsByCount P old new = (n : ℕ) × IsCount P n × (new ≡ old + n)

-- a pair of a shape and a node that is its target (SHACL 2.1.3)
abbrev pub IsTargetPair : List Triple → List Triple → Term × Term → Type 0
IsTargetPair g s e = Target g s e.0 e.1

-- For each shapes graph that the shapes stand for: one step for each target of the shape at the place k; one for each target
-- of each of the first k shapes; one for each pair of a shape and its target.
abbrev pub StepsOfShape : List Term → List Ids → List (Shape ℕ) → ℕ → ℕ → ℕ → Type 0
StepsOfShape terms ids shapes k old new = AtPlace terms shapes k (λ s c. GrowsByCount (Target (graph_of terms ids) s c.node) old new)

abbrev pub IsNodeOf : List ReadShape → Term → Type 0
IsNodeOf shapes t = (c : ReadShape) × Contains shapes c × (c.node ≡ t)

abbrev pub StepsOfFirst : List Term → List Ids → List (Shape ℕ) → ℕ → ℕ → ℕ → Type 0
StepsOfFirst terms ids shapes k old new = (s : List Triple) → StandFor (named_shapes terms shapes) s
    → GrowsByCount (λ (e : Term × Term). IsNodeOf (take k (named_shapes terms shapes)) e.0 × IsTargetPair (graph_of terms ids) s e) old new

abbrev pub StepsOfGraph : List Term → List Ids → List (Shape ℕ) → ℕ → ℕ → Type 0
StepsOfGraph terms ids shapes old new = (s : List Triple) → StandFor (named_shapes terms shapes) s → GrowsByCount (IsTargetPair (graph_of terms ids) s) old new
