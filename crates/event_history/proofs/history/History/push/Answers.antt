use Rattle.event_history.proofs.Telling.{have_pushed}
use Rattle.event_history.proofs.history.History.push.Goals as goal

pub invariant_of-self : goal.invariant_of-self
invariant_of-self c = have_pushed _ _ _ _ c.push.ensures c.self.invariant tt
