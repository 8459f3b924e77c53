use Rattle.std.proofs.Common.{refl, subst}
use Rattle.shape_model.specs.Triples.{IsIri}
use Rattle.shape_properties.specs.declared.property.ShapeProperty.TheVariants as vocabulary
use Rattle.shape_rules.proofs.SingleValues.{one_value}
use Rattle.shape_reader.proofs.path.predicate_of.Goals as goal

pub returns-in_default : goal.returns-in_default
returns-in_default c = λ p k. c.in_default.ensures k.0 k.1

pub returns-else-is_iri : goal.returns-else-is_iri
returns-else-is_iri c = λ p k.
    let one = one_value c.args.shape.now.graph c.recall.ensures.well_formed c.args.shape.now.node c.recall.ensures.shape vocabulary.Path refl in
    let iri = c.is_iri.ensures.1 (subst IsIri (one k.0 c.in-Some.value.now k.1 c.in-Some.ensures) k.2.1) in
    let none = c.if-is_iri.false in
    cc
