use Rattle.std.proofs.Common.{subst}
use Rattle.rdf_model.specs.declared.term.Term.{Term}
use Rattle.shape_model.specs.Triples.{Has}
use Rattle.plain_terms.specs.Finds.{Finds, WithSome}
use Rattle.plain_terms.proofs.graph.parameters_of_each.Goals as goal

pub returns : goal.returns
returns c = subst (λ (p : Term). Finds (WithSome c.args.nodes.now (λ (node value : Term). Has c.args.shapes.now node p value)) c.in_ok-found.found.items) c.in_ok-property.ensures c.in_ok-found.ensures
