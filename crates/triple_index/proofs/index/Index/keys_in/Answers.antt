use Rattle.triple_index.proofs.Matching.{in_predicates, in_objects}
use Rattle.triple_index.proofs.index.Index.keys_in.Goals as goal

pub returns-in-Predicates-clause-same : goal.returns-in-Predicates-clause-same
returns-in-Predicates-clause-same c = in_predicates c.self.inside.subjects c.self.inside.predicates c.self.inside.objects c.self.invariant c.args.self.now c.self.view_is c.args.order c.in-Predicates.is

pub returns-in-Objects-clause-same : goal.returns-in-Objects-clause-same
returns-in-Objects-clause-same c = in_objects c.self.inside.subjects c.self.inside.predicates c.self.inside.objects c.self.invariant c.args.self.now c.self.view_is c.args.order c.in-Objects.is
