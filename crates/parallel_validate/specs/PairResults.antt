-- What a pair of a shape and a node gives, by number.
use Rattle.std.specs.Prelude.{◌≡◌, ◌↔◌, ◌⊎◌, ◌+◌, ℕ, Bool, List, IsTrue}
use Rattle.collections.specs.Listings.{IsListing}
use Rattle.rdf_model.specs.declared.term.Term.{Term}
use Rattle.rdf_model.specs.declared.triple.Triple.{Triple}
use Rattle.rdf_model.specs.declared.ids.Ids.{Ids}
use Rattle.rdf_model.specs.declared.look.Look.{Look}
use Rattle.rdf_model.specs.Numbers.{graph_of, term_at}
use Rattle.shape_model.specs.declared.result_row.ResultRow.{ResultRow}
use Rattle.shape_model.specs.NodeLooks.{IsLook}
use Rattle.shape_model.specs.Limits.{levels_limit}
use Rattle.shape_model.specs.Readings.{IsAcyclic, IsShallow, reading}
use Rattle.shape_model.specs.Rows.{result_row_cmp}
use Rattle.shape_model.specs.ShapeLooks.{ResultLook, TargetLook}
use Rattle.shape_model.specs.Targets.{Target}
use Rattle.path_eval.specs.Naming.{AddsLooks}
use Rattle.shape_ast.specs.declared.shape.Shape.{Shape}
use Rattle.shape_eval.specs.Results.{AtPlace}
use Rattle.change_laws.specs.Pairs.{PairRow}

-- it is answered whether the node is a target of the shape at the place, and just the looks that decide it have been added
pub record IsTold (terms : List Term) (ids : List Ids) (s : List Triple) (shape : Term) (f : ℕ) (answer : Bool) (old new : List (Look ℕ)) : Type 0 where
  pub answered : IsTrue answer ↔ Target (graph_of terms ids) s shape (term_at terms f)
  pub looks : AddsLooks terms (IsLook (graph_of terms ids) (TargetLook (reading s shape)) (term_at terms f)) old new

abbrev pub TellsTarget : List Term → List Ids → List (Shape ℕ) → ℕ → ℕ → Bool → List (Look ℕ) → List (Look ℕ) → Type 0
TellsTarget terms ids shapes n f answer old new = AtPlace terms shapes n (λ s c. IsTold terms ids s c.node f answer old new)

-- the looks that decide whether f is a target of the shape, and where it is one its results
abbrev pub PairLook : List Triple → List Triple → Term → Term → Look Term → Type 0
PairLook h s shape f look = IsLook h (TargetLook (reading s shape)) f look ⊎ (Target h s shape f × IsLook h (ResultLook s shape) f look)

-- one more where f is a target of the shape, else none
abbrev pub CountsTarget : List Triple → List Triple → Term → Term → ℕ → ℕ → Type 0
CountsTarget h s shape f old new = (Target h s shape f × (new ≡ old + 1)) ⊎ ((Target h s shape f → ⊥) × (new ≡ old))

-- for each shapes graph that the shapes stand for, in which no shape refers to itself and no chain of references is too long
abbrev pub ListsPair : List Term → List Ids → List (Shape ℕ) → ℕ → ℕ → List ResultRow → Type 0
ListsPair terms ids shapes n f rows = AtPlace terms shapes n (λ s c. IsAcyclic s → IsShallow levels_limit s → IsListing result_row_cmp (PairRow (graph_of terms ids) s c.node (term_at terms f)) rows)

abbrev pub AddsPairLooks : List Term → List Ids → List (Shape ℕ) → ℕ → ℕ → List (Look ℕ) → List (Look ℕ) → Type 0
AddsPairLooks terms ids shapes n f old new = AtPlace terms shapes n (λ s c. IsAcyclic s → IsShallow levels_limit s → AddsLooks terms (PairLook (graph_of terms ids) s c.node (term_at terms f)) old new)

abbrev pub StepsOfPair : List Term → List Ids → List (Shape ℕ) → ℕ → ℕ → ℕ → ℕ → Type 0
StepsOfPair terms ids shapes n f old new = AtPlace terms shapes n (λ s c. CountsTarget (graph_of terms ids) s c.node (term_at terms f) old new)
