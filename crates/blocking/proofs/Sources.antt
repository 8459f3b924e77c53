-- The source shape of each result is a shape.
use Rattle.std.proofs.Common.{ℕ, zero, suc, List, length, refl, sym, subst, inl, inr}
use Rattle.rdf_model.specs.declared.term.Term.{Term}
use Rattle.rdf_model.specs.declared.triple.Triple.{Triple}
use Rattle.shape_model.specs.declared.result_row.ResultRow.{ResultRow}
use Rattle.shape_model.specs.Readings.{reading}
use Rattle.shape_model.proofs.Bridges.{makes_shape}
use Rattle.shape_model.proofs.Covers.{has_target}
use Rattle.shape_model.proofs.Findings.{component_source}
use Rattle.shape_model.specs.ShapeSyntax.{IsShape}
use Rattle.shape_model.specs.Validation.{AtDepth, IsResult}
use Rattle.shape_model.specs.Vocabulary.{ShProperty}

module _ (g s : List Triple) where
  -- itself, or one of its property shapes
  source : (n : ℕ) (shape f : Term) (r : ResultRow) → IsShape s shape → AtDepth n g (reading s) shape f r → IsShape s r.source_shape
  source zero shape f r i a = absurd a
  source (suc n) shape f r i a = elim a.1 [
    | inl k ↦ subst (λ (t : Term). IsShape s t) (sym (component_source k.0 _ (reading s shape) shape f r k.1)) i
    | inr k ↦ source n k.0 k.2.0 r (inr (inr (inr (inl (ShProperty, shape, inr (inr (inl refl)), k.1))))) k.2.2
  ]

  pub source_shape : (r : ResultRow) → IsResult g s r → IsShape s r.source_shape
  source_shape r i = source (suc (length s)) i.0 i.1 r (makes_shape s i.0 (has_target g s i.0 i.1 i.2)) i.3
