-- All results of a graph with the aims that give them.
use Rattle.std.specs.Prelude.{◌≡◌, ◌↔◌, ◌<◌, ℕ, List, length, Some, slice_get}
use Rattle.std.specs.List.{Contains}
use Rattle.collections.specs.Ordered.{IsAscending}
use Rattle.rdf_model.specs.declared.ids.Ids.{Ids}
use Rattle.rdf_model.specs.declared.term.Term.{Term}
use Rattle.rdf_model.specs.declared.triple.Triple.{Triple}
use Rattle.rdf_model.specs.Numbers.{graph_of, term_at}
use Rattle.shape_model.specs.declared.result_row.ResultRow.{ResultRow}
use Rattle.shape_model.specs.Validation.{At}
use Rattle.shape_ast.specs.declared.shape.Shape.{Shape}
use Rattle.shape_ast.specs.Readings.{ReadShape, named_shapes}
use Rattle.result_evidence.specs.declared.aimed_row.AimedRow.{AimedRow}
use Rattle.result_evidence.specs.AimedOrder.{aimed_cmp}
use Rattle.evidence_blocks.specs.Blocks.{Gives, IsLeastAim}
use Rattle.result_evidence.specs.Standing.{ForEach, ForShape}

-- the row, aimed so
abbrev pub aimed_at : ℕ → Term → ℕ → ResultRow → AimedRow
aimed_at place focus number r = record { row = r; place = place; focus = focus; number = number }

-- it is aimed at this place and at the node with this number, and P holds of its row
abbrev pub IsFoundAt : List Term → ℕ → ℕ → (ResultRow → Type 0) → AimedRow → Type 0
IsFoundAt terms place n P x = (x.place ≡ place) × (x.number ≡ n) × (x.focus ≡ term_at terms n) × P x.row

-- just the results of the shape at the node with this number, or at one of some nodes, are found, aimed so
abbrev pub FindsAt : List Term → List Ids → List Triple → Term → ℕ → ℕ → List AimedRow → Type 0
FindsAt terms ids s shape place n found = (x : AimedRow) → Contains found x ↔ IsFoundAt terms place n (At (graph_of terms ids) s shape (term_at terms n)) x

abbrev pub FindsAtSome : List Term → List Ids → List Triple → Term → ℕ → List ℕ → List AimedRow → Type 0
FindsAtSome terms ids s shape place nodes found =
    (x : AimedRow) → Contains found x ↔ ((n : ℕ) × Contains nodes n × IsFoundAt terms place n (At (graph_of terms ids) s shape (term_at terms n)) x)

-- the shape gives the row at the focus node, which has the number
abbrev pub IsAimedBy : List Term → List Ids → List Triple → Term → AimedRow → Type 0
IsAimedBy terms ids s shape x = (x.number < length terms) × (x.focus ≡ term_at terms x.number) × Gives (graph_of terms ids) s x.row shape x.focus

-- so the shape at its place does
abbrev pub IsAimed : List Term → List Ids → List (Shape ℕ) → List Triple → AimedRow → Type 0
IsAimed terms ids shapes s x = (c : ReadShape) × (slice_get (named_shapes terms shapes) x.place ≡ Some c) × IsAimedBy terms ids s c.node x

-- the row stands in the list with this aim
abbrev pub HasAim : List AimedRow → ResultRow → ℕ → Term → Type 0
HasAim all r place f = (x : AimedRow) × Contains all x × (x.row ≡ r) × (x.place ≡ place) × (x.focus ≡ f)

-- the list has just the results of the shape, which stands at the place, with each of their aims
pub record AreAimsOf (terms : List Term) (ids : List Ids) (s : List Triple) (shape : Term) (place : ℕ) (found : List AimedRow) : Type 0 where
  pub sound : (x : AimedRow) → Contains found x → (x.place ≡ place) × IsAimedBy terms ids s shape x
  pub every : (r : ResultRow) (f : Term) → Gives (graph_of terms ids) s r shape f → HasAim found r place f

-- the list has just the results of the first k shapes, with each of their aims
pub record AreAimsBelow (terms : List Term) (ids : List Ids) (shapes : List (Shape ℕ)) (k : ℕ) (s : List Triple) (all : List AimedRow) : Type 0 where
  pub sound : (x : AimedRow) → Contains all x → (x.place < k) × IsAimed terms ids shapes s x
  pub every : (j : ℕ) (c : ReadShape) (r : ResultRow) (f : Term) → j < k → slice_get (named_shapes terms shapes) j ≡ Some c → Gives (graph_of terms ids) s r c.node f → HasAim all r j f

-- All results of the graph with each of their aims, in order.
abbrev pub AreAimedRows : List Term → List Ids → List (Shape ℕ) → List AimedRow → Type 0
AreAimedRows terms ids shapes all = IsAscending aimed_cmp all × ForEach terms shapes (λ s. AreAimsBelow terms ids shapes (length shapes) s all)

-- it is aimed at the least shape and focus node that give its row
pub record IsLeastAimed (terms : List Term) (ids : List Ids) (shapes : List (Shape ℕ)) (x : AimedRow) : Type 0 where
  pub place : x.place < length shapes
  pub number : x.number < length terms
  pub least : ForShape terms shapes x.place (λ s shape. IsLeastAim (graph_of terms ids) s x.row shape (term_at terms x.number))
