use Rattle.std.proofs.Common.{◌≡◌, arith}
use Rattle.rdf_model.specs.declared.term.Term.TheVariants.{Iri}
use Rattle.shape_properties.specs.Properties.{property_iri}
use Rattle.shape_properties.specs.declared.property.ShapeProperty.{ShapeProperty}
use Rattle.shape_properties.specs.declared.property.TheConstants.{ALL}
use Rattle.shape_syntax.proofs.Scans.{in_all}
use Rattle.shape_properties.proofs.Names.{listed}
use Rattle.shape_syntax.proofs.Loops.{none_next}
use Rattle.shape_properties.proofs.property.find_property.Goals as goal

pub loop-property-preserved : goal.loop-property-preserved
loop-property-preserved c = none_next (λ (p : ShapeProperty). Iri c.args.iri.now ≡ property_iri p) ALL c.loop-property.property-index _ (omega arith) c.loop-property.invariant (λ e. let k = c.has_iri.ensures.1 e in cc)

pub returns : goal.returns
returns c = λ p e. c.loop-property.invariant p (in_all ALL c.loop-property.property-index (omega arith) p (listed p)) e
