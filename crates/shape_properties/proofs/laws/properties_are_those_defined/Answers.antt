use Rattle.shape_properties.proofs.Defined.{rule_property, same_iri}
use Rattle.shape_properties.proofs.laws.properties_are_those_defined.Goals as goal

pub returns : goal.returns
returns c = λ q. (rule_property q, same_iri q)
