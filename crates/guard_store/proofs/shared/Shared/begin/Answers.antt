use Rattle.std.proofs.Common.{refl}
use Rattle.store_model.specs.declared.event.Action.TheVariants as actions
use Rattle.store_model.specs.declared.event.Reply.TheVariants as replies
use Rattle.guard_store.specs.Answers.{event_of}
use Rattle.guard_store.proofs.Slots.{its_on}
use Rattle.guard_store.proofs.shared.Shared.begin.Goals as goal

pub invariant_of-self : goal.invariant_of-self
invariant_of-self g c = its_on _ _ _ _ _ _ c.self.inside.core c.begin.new.self c.self.inside.log c.begin.result (λ snap. event_of c.args.session actions.Begin (replies.Version snap.number)) (λ snap. record { accepted = refl; failed = refl; sound = refl })
    c.recall_consistent.ensures c.begin.ensures.step c.begin.ensures.memory c.self.invariant
