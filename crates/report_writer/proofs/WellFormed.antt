-- What a well-formed shapes graph says of the path of a shape.
use Rattle.std.proofs.Common.{◌≡◌, ℕ, ◌<◌, ◌≤◌, List, refl, inl, inr, arith}
use Rattle.std.specs.Prelude.{Some, None}
use Rattle.std.proofs.lemmas.Bool.{cases_lt}
use Rattle.rdf_model.specs.declared.term.Term.{Term}
use Rattle.rdf_model.specs.declared.triple.Triple.{Triple}
use Rattle.shape_model.specs.Limits.{levels_limit}
use Rattle.shape_model.specs.Paths.{Path}
use Rattle.shape_model.specs.ShapeSyntax.{HasProperty, IsShape, PathOf}
use Rattle.shape_model.specs.Vocabulary.{ShPath}
use Rattle.shape_syntax.specs.PathDepth.{depth_of}
use Rattle.shape_syntax.proofs.Equals.{same_unless}
use Rattle.shape_properties.specs.declared.property.ShapeProperty.TheVariants as properties
use Rattle.shape_rules.specs.Broken.{IsWellFormed}
use Rattle.shape_properties.specs.Properties.{property_iri}
use Rattle.shape_rules.specs.Rows.{row}
use Rattle.report_writer.proofs.RuleShapes.{rule_shape}

within : (depth : ℕ) → depth ≤ 256 → depth < levels_limit
unfolding levels_limit
within depth le = omega (arith, le)

module _ (s : List Triple) (well : IsWellFormed s) (n : Term) (shape : IsShape s n) where
  -- it has one sh:path at most (rule 1)
  pub one_value : (v w : Term) → HasProperty s n ShPath v → HasProperty s n ShPath w → w ≡ v
  one_value v w h k = same_unless w v (λ apart. well (row n 1 (Some (property_iri properties.Path))) (inl (inl (inl (rule_shape s n shape, inl (properties.Path, v, h, inl (refl, (w, k, apart), refl)))))))

  -- its path is nested 256 levels deep at most (rule 41)
  pub shallow : (v : Term) (p : Path) → HasProperty s n ShPath v → PathOf s v p → depth_of p < levels_limit
  shallow v p h path = elim (cases_lt 256 (depth_of p)) [
    | inl deep ↦ absurd (well (row n 41 None) (inr (λ r b. well r (inl b), inl (inr (rule_shape s n shape, (v, h, (p, path, deep))), refl))))
    | inr short ↦ within (depth_of p) short
  ]
