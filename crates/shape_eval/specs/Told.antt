-- What is known of the shapes that a shape refers to: whether each value node conforms to each of them.
use Rattle.std.specs.Prelude.{◌≡◌, ◌==◌, ◌⊎◌, ℕ, Bool, List, [], ◌∷◌, length, Option, Some, None, if◌then◌else◌, slice_get}
use Rattle.std.specs.List.{Contains}
use Rattle.rdf_model.specs.declared.term.Term.{Term}
use Rattle.rdf_model.specs.declared.triple.Triple.{Triple}
use Rattle.rdf_model.specs.declared.ids.Ids.{Ids}
use Rattle.rdf_model.specs.Numbers.{term_at, graph_of}
use Rattle.shape_model.specs.declared.result_row.ResultRow.{ResultRow}
use Rattle.shape_model.specs.Readings.{reading}
use Rattle.shape_model.specs.Validation.{AtDepth}
use Rattle.component_rows.specs.Answers.{AreAnswersTo}
use Rattle.shape_ast.specs.declared.component.TermComponent.{TermComponent}
use Rattle.shape_ast.specs.declared.component.TermComponent.TheVariants as by_term
use Rattle.shape_ast.specs.declared.constraint.Constraint.{Constraint}
use Rattle.shape_ast.specs.declared.constraint.Constraint.TheVariants.{ByTerm, ByList, ByShape, ByShapes}
use Rattle.shape_ast.specs.declared.shape.Shape.{Shape}
use Rattle.shape_eval.specs.declared.told.Told.{Told}

-- the first answers for the node, none where it isn't told
abbrev pub answers_of : List Told → ℕ → List Bool
answers_of [] m = []
answers_of (t ∷ ts) m = if t.node == m then t.answers else answers_of ts m

-- the node that is the shape at the place
abbrev pub node_number : Option (Shape ℕ) → ℕ
node_number None = 0
node_number (Some s) = s.node

abbrev pub node_at : List (Shape ℕ) → ℕ → ℕ
node_at shapes n = node_number (slice_get shapes n)

abbrev pub places_in : Option ℕ → List ℕ
places_in None = []
places_in (Some n) = n ∷ []

-- the shapes whose results a component of the shape rests on, whatever its parameter (SHACL 4.7.3)
abbrev pub CountAsks : Shape ℕ → TermComponent → ℕ → Type 0
CountAsks s by_term.QualifiedMinCount n = Contains (places_in s.qualified) n ⊎ Contains s.siblings n
CountAsks s by_term.QualifiedMaxCount n = Contains (places_in s.qualified) n ⊎ Contains s.siblings n
CountAsks s component n = ⊥

-- those that a constraint of it rests on (SHACL 4.6 and 4.7)
abbrev pub Asks : Shape ℕ → Constraint ℕ → ℕ → Type 0
Asks s (ByTerm component q) n = CountAsks s component n
Asks s (ByList component q members) n = ⊥
Asks s (ByShape component q shape) n = shape ≡ n
Asks s (ByShapes component q shapes) n = Contains shapes n

-- and those that the shape's constraints rest on
abbrev pub AsksSome : Shape ℕ → List (Constraint ℕ) → ℕ → Type 0
AsksSome s constraints n = (k : Constraint ℕ) × Contains constraints k × Asks s k n

-- the node conforms to the shape, through chains of fewer references than n
abbrev pub ConformsAt : List Triple → List Triple → ℕ → Term → Term → Type 0
ConformsAt g s n shape v = (r : ResultRow) → AtDepth n g (reading s) shape v r → ⊥

-- each shape at such a place has an answer for each value node
abbrev pub HaveAnswers : List (Shape ℕ) → List ℕ → List Told → (ℕ → Type 0) → Type 0
HaveAnswers shapes values told IsPlace = (p : ℕ) → IsPlace p → length (answers_of told (node_at shapes p)) ≡ length values

-- and it says whether the value node conforms to the shape
abbrev pub AreRight : List Term → List Ids → List Triple → ℕ → List (Shape ℕ) → List ℕ → List Told → (ℕ → Type 0) → Type 0
AreRight terms ids s n shapes values told IsPlace =
    (p : ℕ) → IsPlace p → AreAnswersTo (ConformsAt (graph_of terms ids) s n (term_at terms (node_at shapes p))) terms values (answers_of told (node_at shapes p))

-- whenever the answers are right, for a shapes graph and a number of references, P holds of these
abbrev pub WhereRight : List Term → List Ids → List (Shape ℕ) → List ℕ → List Told → (ℕ → Type 0) → (List Triple → ℕ → Type 0) → Type 0
WhereRight terms ids shapes values told IsPlace P = (s : List Triple) (n : ℕ) → AreRight terms ids s n shapes values told IsPlace → P s n
