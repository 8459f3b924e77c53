-- Answers to value nodes for some shapes: whether each node conforms to each of them.
use Rattle.std.specs.Prelude.{◌≡◌, ◌<◌, ◌+◌, ℕ, Bool, false, List, [], ◌∷◌, length, if◌then◌else◌}
use Rattle.std.proofs.Common.{get_or}
use Rattle.rdf_model.specs.declared.term.Term.{Term}
use Rattle.rdf_model.specs.Numbers.{term_at}
use Rattle.shape_model.specs.Components.{Surroundings}
use Rattle.component_rows.specs.Listed.{at_nodes}
use Rattle.component_rows.specs.Nodes.{HasNode}

-- for each shape a list of answers, one to each value node; equal shapes have equal answers
pub record AreTold (shapes values : List ℕ) (answers : List (List Bool)) : Type 0 where
  pub as_many : length answers ≡ length shapes
  pub each : (k : ℕ) → k < length answers → length (get_or answers k []) ≡ length values
  pub same : (j k : ℕ) → j < length shapes → k < length shapes → get_or shapes j 0 ≡ get_or shapes k 0 → get_or answers j [] ≡ get_or answers k []

-- an answer to the value node v for the shape m is no
abbrev pub IsDenied : List Term → List ℕ → List ℕ → List (List Bool) → Term → Term → Type 0
IsDenied terms shapes values answers m v =
    (k : ℕ) × (i : ℕ) × (k < length shapes) × (i < length values) × (term_at terms (get_or shapes k 0) ≡ m) × (term_at terms (get_or values i 0) ≡ v)
    × (get_or (get_or answers k []) i false ≡ false)

-- surroundings in which a shape gives results at a value node just where the answer is no
abbrev pub told_shapes : List Term → List ℕ → List ℕ → List (List Bool) → Surroundings
told_shapes terms shapes values answers = record (at_nodes (HasNode terms values)) { row = λ m v r. IsDenied terms shapes values answers m v }

-- how many of the lists have a yes at the place
abbrev pub yes_at : ℕ → List (List Bool) → ℕ
yes_at i [] = 0
yes_at i (answers ∷ more) = (if get_or answers i false then 1 else 0) + yes_at i more

-- how many of the answers are yes
abbrev pub how_many : List Bool → ℕ
how_many [] = 0
how_many (b ∷ bs) = (if b then 1 else 0) + how_many bs
