use Rattle.triple_index.proofs.Looked.{joined_listed}
use Rattle.triple_index.proofs.find.IndexTriples.with_predicate.Goals as goal

pub returns : goal.returns
returns c = joined_listed c.self.inside.subjects c.self.inside.predicates c.self.inside.objects c.self.invariant c.args.self.now c.self.view_is c.args.predicate c.in_ok-pairs_with.field-0.items c.in_ok-pairs_with.ensures
