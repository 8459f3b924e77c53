use Rattle.session_model.specs.Sessions.{parts_of}
use Rattle.guard_store.proofs.Slots.{its_named}
use Rattle.guard_store.proofs.shared.Shared.name.Goals as goal

pub invariant_of-self : goal.invariant_of-self
invariant_of-self g c = its_named _ _ _ _ _ _ c.self.inside.core c.name_list.new.self c.self.inside.log c.args.session c.args.kind (parts_of c.args.block.now) c.name_list.result c.recall_consistent.ensures c.name_list.ensures c.self.invariant
