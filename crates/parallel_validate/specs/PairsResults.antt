-- What some pairs give, one after another.
use Rattle.std.specs.Prelude.{◌≡◌, ◌<◌, ℕ, List, [], ◌∷◌, length, map}
use Rattle.std.specs.List.{All, Contains}
use Rattle.rdf_model.specs.declared.term.Term.{Term}
use Rattle.rdf_model.specs.declared.triple.Triple.{Triple}
use Rattle.rdf_model.specs.declared.ids.Ids.{Ids}
use Rattle.rdf_model.specs.declared.look.Look.{Look}
use Rattle.rdf_model.specs.Numbers.{graph_of, term_at}
use Rattle.shape_model.specs.Limits.{levels_limit}
use Rattle.shape_model.specs.Readings.{IsAcyclic, IsShallow}
use Rattle.path_eval.specs.Naming.{AddsLooks}
use Rattle.shape_ast.specs.declared.shape.Shape.{Shape}
use Rattle.shape_ast.specs.Readings.{named_shapes}
use Rattle.shape_ast.specs.Standing.{StandFor}
use Rattle.shape_eval.specs.Told.{node_at}
use Rattle.parallel_validate.specs.declared.pairs.CheckedRows.{CheckedRows}
use Rattle.parallel_validate.specs.PairResults.{CountsTarget, ListsPair, PairLook}

-- the first number is a place of a shape, the second that of a term
abbrev pub ArePlacedPairs : List Term → List (Shape ℕ) → List (ℕ × ℕ) → Type 0
ArePlacedPairs terms shapes pairs = (e : ℕ × ℕ) → Contains pairs e → (e.0 < length shapes) × (e.1 < length terms)

abbrev pub pair_of : CheckedRows → ℕ × ℕ
pair_of c = (c.shape, c.focus)

-- they are the pairs in turn, each with its results
pub record HaveRows (terms : List Term) (ids : List Ids) (shapes : List (Shape ℕ)) (pairs : List (ℕ × ℕ)) (checked : List CheckedRows) : Type 0 where
  pub same : map pair_of checked ≡ pairs
  pub rows : (c : CheckedRows) → Contains checked c → ListsPair terms ids shapes c.shape c.focus c.rows

-- the shape and the node of a pair
abbrev pub shape_at : List Term → List (Shape ℕ) → ℕ × ℕ → Term
shape_at terms shapes e = term_at terms (node_at shapes e.0)

-- just the looks of each of the pairs have been added
abbrev pub AddsLooksOfPairs : List Term → List Ids → List (Shape ℕ) → List (ℕ × ℕ) → List (Look ℕ) → List (Look ℕ) → Type 0
AddsLooksOfPairs terms ids shapes pairs old new = (s : List Triple) → StandFor (named_shapes terms shapes) s → IsAcyclic s → IsShallow levels_limit s
    → AddsLooks terms (λ l. (e : ℕ × ℕ) × Contains pairs e × PairLook (graph_of terms ids) s (shape_at terms shapes e) (term_at terms e.1) l) old new

-- a step was counted for each of the pairs that is a target, one pair after another
abbrev pub CountsPairs : (ℕ × ℕ → ℕ → ℕ → Type 0) → List (ℕ × ℕ) → ℕ → ℕ → Type 0
CountsPairs Counts [] old new = new ≡ old
CountsPairs Counts (e ∷ es) old new = (mid : ℕ) × Counts e old mid × CountsPairs Counts es mid new

abbrev pub StepsOfPairs : List Term → List Ids → List (Shape ℕ) → List (ℕ × ℕ) → ℕ → ℕ → Type 0
StepsOfPairs terms ids shapes pairs old new = (s : List Triple) → StandFor (named_shapes terms shapes) s
    → CountsPairs (λ e. CountsTarget (graph_of terms ids) s (shape_at terms shapes e) (term_at terms e.1)) pairs old new
