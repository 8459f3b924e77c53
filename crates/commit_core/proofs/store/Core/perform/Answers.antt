use Rattle.std.proofs.Common.{◌≡◌, true, subst}
use Rattle.store_model.specs.declared.event.Action.{Action}
use Rattle.store_model.specs.declared.event.Action.TheVariants.{Commit}
use Rattle.store_model.specs.Store.{version}
use Rattle.commit_core.specs.Conditions.{may_ask, may_commit, was_opened}
use Rattle.commit_core.proofs.Conditions.{both, committable}
use Rattle.commit_core.proofs.store.Core.perform.Goals as goal

pub replay_commit-requires-clause-committable : goal.replay_commit-requires-clause-committable
replay_commit-requires-clause-committable g c κs within =
    let s = c.args.self.now.state in
    let i = c.args.session in
    let x = c.in-Ok.transaction in
    let h : may_ask s i (Commit x) ≡ true = subst (λ (a : Action). may_ask s i a ≡ true) c.in-Ok.ensures c.requires.asked in
    committable s x (both (was_opened s.opened i) (may_commit (version s) s.named x) h).1
