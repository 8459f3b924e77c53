use Rattle.triple_index.proofs.Looked.{edges_listed}
use Rattle.triple_index.proofs.find.IndexTriples.edges.Goals as goal

pub returns : goal.returns
returns c = edges_listed c.self.inside.subjects c.self.inside.predicates c.self.inside.objects c.self.invariant c.args.self.now c.self.view_is c.args.subject c.in_ok-pairs_with.field-0.items c.in_ok-pairs_with.ensures
