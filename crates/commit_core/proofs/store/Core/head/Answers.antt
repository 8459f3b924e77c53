use Rattle.std.proofs.Common.{ap, sym, ◌∙◌, length}
use Rattle.commit_core.proofs.Consistency.{consistent_head}
use Rattle.commit_core.proofs.store.Core.head.Goals as goal

pub invariant_of-self : goal.invariant_of-self
invariant_of-self c =
    rw c.push.ensures (
      consistent_head _ _ _ _ c.self.invariant.0 c.self.view_is c.requires
          (c.number.ensures ∙ (ap (λ n. n.number) c.in_ok-snap.ensures ∙ sym (ap (λ s. length s.state.commits) c.self.view_is))),
      c.self.invariant.1,
      c.self.invariant.2,
    )
