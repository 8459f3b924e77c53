use Rattle.shape_model.specs.Vocabulary.{sh}
use Rattle.shape_properties.proofs.property.property_of.Goals as goal

pub returns-in_default : goal.returns-in_default
unfolding sh
returns-in_default c = λ p e. c.in_default.not-Iri _ e
