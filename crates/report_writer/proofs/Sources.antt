-- The source shapes of the results of a listing are among the compiled shapes.
use Rattle.std.proofs.Common.{ℕ, zero, suc, List, length, refl, sym, subst, inl, inr}
use Rattle.std.specs.Prelude.{slice_index_or}
use Rattle.std.proofs.lemmas.List.Elements.{All-contains_itself}
use Rattle.rdf_model.specs.declared.term.Term.{Term}
use Rattle.rdf_model.specs.declared.triple.Triple.{Triple}
use Rattle.shape_ast.specs.Readings.{ReadShape}
use Rattle.shape_ast.specs.Standing.{StandFor}
use Rattle.shape_model.specs.declared.result_row.ResultRow.{ResultRow}
use Rattle.shape_model.specs.Readings.{IsDeactivated, reading}
use Rattle.shape_model.proofs.Findings.{component_source}
use Rattle.shape_model.specs.ShapeSyntax.{HasProperty, IsShape, MakesShape}
use Rattle.shape_model.specs.Targets.{Target}
use Rattle.shape_model.specs.Validation.{AtDepth, Listing}
use Rattle.shape_model.specs.Vocabulary.{ShapeProperty, ShDeactivated, ShProperty, ShTargetClass, ShTargetNode, ShTargetObjectsOf, ShTargetSubjectsOf, true_literal}
use Rattle.report_writer.specs.Sources.{HaveSources}

module _ (g s : List Triple) where
  -- a node with such a property is a shape
  made : (p : ShapeProperty) (n v : Term) → MakesShape p → HasProperty s n p v → IsShape s n
  made p n v makes h = inr (inr (inl (p, v, makes, h)))

  -- a shape with a target is one
  targeted : (shape f : Term) → Target g s shape f → IsShape s shape
  targeted shape f = elim [
    | inl h ↦ made ShTargetNode shape f refl h
    | inr (inl h) ↦ made ShTargetClass shape h.0 refl h.1
    | inr (inr (inl h)) ↦ h.0.0
    | inr (inr (inr (inl h))) ↦ made ShTargetSubjectsOf shape h.0 refl h.1
    | inr (inr (inr (inr h))) ↦ made ShTargetObjectsOf shape h.0 refl h.1
  ]

  -- a shape that isn't deactivated
  abbrev IsActive : Term → Type 0
  IsActive n = IsShape s n × (IsDeactivated (reading s n) → ⊥)

  -- the source of a shape's result is one: itself, or one of its property shapes
  source : (n : ℕ) (shape f : Term) (r : ResultRow) → IsShape s shape → AtDepth n g (reading s) shape f r → IsActive r.source_shape
  source zero shape f r i a = absurd a
  source (suc n) shape f r i a = elim a.1 [
    | inl k ↦ subst IsActive (sym (component_source k.0 _ (reading s shape) shape f r k.1)) (i, a.0)
    | inr k ↦ source n k.0 k.2.0 r (inr (inr (inr (inl (ShProperty, shape, inr (inr (inl refl)), k.1))))) k.2.2
  ]

-- the shapes that stand for the graph have the source of each of its results
pub listing_sources : (g s : List Triple) (shapes : List ReadShape) (rows : List ResultRow) → StandFor shapes s → Listing g s rows → HaveSources shapes rows
listing_sources g s shapes rows stand listing k d less =
    let r = slice_index_or rows k d in
    let h = (listing.members r).0 (All-contains_itself rows k d less) in
    let active = source g s (suc (length s)) h.0 h.1 r (targeted g s h.0 h.1 h.2) h.3 in
    let c = stand.all r.source_shape active.0 in
    (c.0, c.1, c.2, λ off. active.1 (subst (λ (n : Term). IsDeactivated (reading s n)) c.2 (((stand.each c.0 c.1).has ShDeactivated true_literal refl).1 (off, refl))))
