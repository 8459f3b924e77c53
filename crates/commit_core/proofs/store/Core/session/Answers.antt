use Rattle.store_model.proofs.Steps.{opens, opens_none}
use Rattle.commit_core.proofs.Consistency.{IsConsistent-step}
use Rattle.commit_core.proofs.store.Core.session.Goals as goal

pub invariant_of-self : goal.invariant_of-self
invariant_of-self c =
    rw c.push.ensures (IsConsistent-step _ _ _ c.self.invariant.0 (opens_none (record { terms = c.self.inside.graph.limit; triples = c.self.inside.bounds.triples; mode = c.self.inside.bounds.mode }) _ c.if-self-ge-MOST_SESSIONS.true), c.self.invariant.1, c.self.invariant.2)

pub invariant_of-self-2 : goal.invariant_of-self-2
invariant_of-self-2 c =
    rw c.push-2.ensures (IsConsistent-step _ _ _ c.self.invariant.0 (opens (record { terms = c.self.inside.graph.limit; triples = c.self.inside.bounds.triples; mode = c.self.inside.bounds.mode }) _ c.if-self-ge-MOST_SESSIONS.false), c.self.invariant.1, c.self.invariant.2)
