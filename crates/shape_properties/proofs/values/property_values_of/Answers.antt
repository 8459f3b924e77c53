use Rattle.std.proofs.Common.{◌∙◌, refl, sym}
use Rattle.shape_properties.specs.Properties.{property_iri}
use Rattle.shape_syntax.proofs.Values.{value_of}
use Rattle.shape_properties.proofs.values.property_values_of.Goals as goal

pub returns-clause-each : goal.returns-clause-each
returns-clause-each c = λ t h. let k = (c.values_of.ensures t).0 h in value_of c.args.graph.now c.args.node.now (property_iri c.args.property) t (k.0, k.1.0, k.1.1 ∙ c.iri.ensures)

pub returns-clause-all : goal.returns-clause-all
returns-clause-all c = λ v h. (c.values_of.ensures (record { subject = c.args.node.now; predicate = property_iri c.args.property; object = v })).1 (h, (refl, sym c.iri.ensures))
