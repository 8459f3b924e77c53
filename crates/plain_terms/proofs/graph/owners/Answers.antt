use Rattle.std.proofs.Common.{subst}
use Rattle.rdf_model.specs.declared.term.Term.{Term}
use Rattle.shape_model.specs.Triples.{Has}
use Rattle.plain_terms.specs.Finds.{Finds}
use Rattle.plain_terms.proofs.graph.owners.Goals as goal

pub returns : goal.returns
returns c = subst (λ (p : Term). Finds (λ (node : Term). Has c.args.shapes.now node p c.args.value.now) c.in_ok-found.found) c.in_ok-property.ensures c.in_ok-found.ensures
