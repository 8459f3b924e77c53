use Rattle.std.proofs.Common.{refl, subst}
use Rattle.rdf_model.specs.declared.term.Term.{Term}
use Rattle.shape_model.specs.Vocabulary.{true_literal}
use Rattle.shape_properties.specs.Syntax.{HasProperty}
use Rattle.shape_properties.specs.declared.property.ShapeProperty.TheVariants as vocabulary
use Rattle.shape_rules.proofs.SingleValues.{one_value}
use Rattle.shape_reader.proofs.values.is_deactivated.Goals as goal

pub returns-in-Some : goal.returns-in-Some
returns-in-Some c =
    let s = c.args.shape.now.graph in
    let n = c.args.shape.now.node in
    let one = one_value c.args.shape.now.graph c.recall.ensures.well_formed c.args.shape.now.node c.recall.ensures.shape vocabulary.Deactivated refl in (
      λ h. subst (λ (v : Term). HasProperty s n vocabulary.Deactivated v) (c.is_true.ensures.0 h) c.in-Some.ensures,
      λ h. c.is_true.ensures.1 (one c.in-Some.value.now true_literal c.in-Some.ensures h),
    )

pub returns-in-None : goal.returns-in-None
returns-in-None c = (λ h. cc, λ h. absurd (c.in-None.ensures true_literal h))
