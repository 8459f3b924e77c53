use Rattle.std.proofs.Common.{◌≡◌, ◌≤◌, inr, sym, subst}
use Rattle.store_model.specs.Snapshots.{snapshot_of}
use Rattle.store_model.specs.declared.event.Limits.{Limits}
use Rattle.store_model.specs.Store.{State, RecordedStore, TakesStep}
use Rattle.guard_store.specs.Fronts.{void_of}
use Rattle.guard_store.proofs.Turning.{opened_now, turned, turned_with}
use Rattle.guard_store.proofs.store.Store.take_head.Goals as goal

pub head-requires : goal.head-requires
head-requires g c = opened_now c.args.self.now c.args.number c.args.pass c.start-held.result.0 c.start-held.result.1.core c.requires c.start-held.ensures.entered

pub void-requires : goal.void-requires
void-requires g c = subst (λ (s : RecordedStore). c.args.number ≤ s.state.opened) (sym c.in-Err.ensures.memory)
    (opened_now c.args.self.now c.args.number c.args.pass c.start-held.result.0 c.start-held.result.1.core c.requires c.start-held.ensures.entered).1

pub returns-in-Ok-head : goal.returns-in-Ok-head
returns-in-Ok-head g c =
    turned_with c.args.self.now c.args.pass c.start-held.result.0 c.finish.result c.start-held.result.1.core c.head.new.self.core _ (λ (s : State). c.in-Ok-head.snap ≡ snapshot_of c.args.self.now.limits.mode s) c.start-held.ensures.entered c.in-Ok-head.ensures.step
    (c.finish.ensures c.args.pass c.start-held.result.1.core _ c.start-held.ensures.entered c.in-Ok-head.ensures.step) (subst (λ (l : Limits). c.in-Ok-head.snap ≡ snapshot_of l.mode c.start-held.result.1.core.state) c.start-held.ensures.entered.limits c.in-Ok-head.ensures.snapshot)

pub returns-in-Err : goal.returns-in-Err
returns-in-Err g c =
    let step = subst (λ (s : RecordedStore). TakesStep s c.void.new.self.core (void_of c.args.number)) c.in-Err.ensures.memory c.void.ensures.step in
    inr (turned c.args.self.now c.args.pass c.start-held.result.0 c.finish-in-Err.result c.start-held.result.1.core c.void.new.self.core _ c.start-held.ensures.entered step
    (c.finish-in-Err.ensures c.args.pass c.start-held.result.1.core _ c.start-held.ensures.entered step))
