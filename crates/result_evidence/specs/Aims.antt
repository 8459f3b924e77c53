-- Which shape, by its place, gives a result at which focus node, by its number.
use Rattle.std.specs.Prelude.{◌≡◌, ◌<◌, ◌≢◌, ℕ, List, length, Option, MatchOption, Some, slice_get}
use Rattle.std.specs.declared.cmp.Ordering.TheVariants.{Greater}
use Rattle.rdf_model.specs.declared.term.Term.{Term}
use Rattle.rdf_model.specs.declared.triple.Triple.{Triple}
use Rattle.rdf_model.specs.declared.ids.Ids.{Ids}
use Rattle.rdf_model.specs.Numbers.{graph_of, term_at}
use Rattle.rdf_model.specs.Terms.{term_cmp}
use Rattle.shape_model.specs.declared.result_row.ResultRow.{ResultRow}
use Rattle.shape_ast.specs.declared.shape.Shape.{Shape}
use Rattle.shape_ast.specs.Readings.{ReadShape, named_shapes}
use Rattle.result_evidence.specs.declared.aims.Aim.{Aim}
use Rattle.evidence_blocks.specs.Blocks.{Gives}

-- the shape gives the result at this target, and at none below it
pub record IsTargetWith (terms : List Term) (ids : List Ids) (s : List Triple) (r : ResultRow) (shape : Term) (f : ℕ) : Type 0 where
  pub bound : f < length terms
  pub gives : Gives (graph_of terms ids) s r shape (term_at terms f)
  pub least : (h : Term) → Gives (graph_of terms ids) s r shape h → term_cmp (term_at terms f) h ≢ Greater

-- this is the least target of the shape that gives the result, or none does
abbrev pub IsLeastTarget : List Term → List Ids → List Triple → ResultRow → Term → Option ℕ → Type 0
IsLeastTarget terms ids s r shape least = MatchOption least ((h : Term) → Gives (graph_of terms ids) s r shape h → ⊥) (IsTargetWith terms ids s r shape)

-- no shape at a place below k gives the result
abbrev pub GivesNoneBelow : List Term → List Ids → List (Shape ℕ) → List Triple → ResultRow → ℕ → Type 0
GivesNoneBelow terms ids shapes s r k = (j : ℕ) (c : ReadShape) (h : Term) → j < k → slice_get (named_shapes terms shapes) j ≡ Some c → Gives (graph_of terms ids) s r c.node h → ⊥

-- the first place of which the shape gives the result, with its least target that does
pub record IsFirstAim (terms : List Term) (ids : List Ids) (shapes : List (Shape ℕ)) (s : List Triple) (r : ResultRow) (aim : Aim) : Type 0 where
  pub place : aim.place < length shapes
  pub below : GivesNoneBelow terms ids shapes s r aim.place
  pub target : (c : ReadShape) → slice_get (named_shapes terms shapes) aim.place ≡ Some c → IsTargetWith terms ids s r c.node aim.focus

-- that, or no shape gives the result
abbrev pub IsAnyAim : List Term → List Ids → List (Shape ℕ) → List Triple → ResultRow → Option Aim → Type 0
IsAnyAim terms ids shapes s r found = MatchOption found (GivesNoneBelow terms ids shapes s r (length shapes)) (IsFirstAim terms ids shapes s r)
