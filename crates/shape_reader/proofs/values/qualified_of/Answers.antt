use Rattle.std.proofs.Common.{ℕ, refl}
use Rattle.shape_properties.specs.declared.property.ShapeProperty.TheVariants as vocabulary
use Rattle.shape_rules.proofs.SingleValues.{one_value}
use Rattle.shape_reader.specs.Parts.{HasPlace}
use Rattle.shape_reader.proofs.Gathered.{place_some}
use Rattle.shape_reader.proofs.Options.{never_some}
use Rattle.shape_reader.proofs.values.qualified_of.Goals as goal

pub returns-in-Some : goal.returns-in-Some
returns-in-Some c =
    let one = one_value c.args.shape.now.graph c.recall.ensures.well_formed c.args.shape.now.node c.recall.ensures.shape vocabulary.QualifiedValueShape refl in
    place_some c.args.shape.now.graph c.args.shape.now.nodes c.args.shape.now.node vocabulary.QualifiedValueShape c.in-Some.value.now c.place_of.result one c.in-Some.ensures c.place_of.ensures

pub returns-in-None : goal.returns-in-None
returns-in-None c = never_some (λ (k : ℕ). HasPlace c.args.shape.now.graph c.args.shape.now.nodes c.args.shape.now.node vocabulary.QualifiedValueShape k) (λ k h. c.in-None.ensures h.0 h.1)
