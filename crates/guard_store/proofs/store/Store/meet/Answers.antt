use Rattle.std.proofs.Common.{refl}
use Rattle.guard_store.proofs.Opening.{keeper_met}
use Rattle.guard_store.proofs.store.Store.meet.Goals as goal

pub returns-clause-keeper : goal.returns-clause-keeper
returns-clause-keeper g c = keeper_met c.args.self.now c.args.keeper c.from_parts.result c.args.session.pass (rw (c.from_parts.ensures, c.meet.ensures.met, c.into_parts-pass.ensures, c.into_pass-other.ensures) refl)
    (rw (c.from_parts.ensures) (rw c.into_parts-pass.ensures at c.meet.ensures.this)) c.requires.keeper
