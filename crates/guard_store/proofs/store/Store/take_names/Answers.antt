use Rattle.std.proofs.Common.{◌≤◌, inr, sym, subst}
use Rattle.store_model.specs.Store.{RecordedStore, TakesStep}
use Rattle.session_model.specs.Sessions.{parts_of}
use Rattle.commit_core.specs.declared.naming.NamingFault.{NamingFault}
use Rattle.commit_core.specs.Faults.{NamesNone}
use Rattle.guard_store.specs.Fronts.{void_of}
use Rattle.guard_store.proofs.Turning.{opened_now, named_nothing, turned}
use Rattle.guard_store.proofs.store.Store.take_names.Goals as goal

pub name-requires : goal.name-requires
name-requires g c = opened_now c.args.self.now c.args.number c.args.pass c.start-held.result.0 c.start-held.result.1.core c.requires c.start-held.ensures.entered

pub void-requires : goal.void-requires
void-requires g c = subst (λ (s : RecordedStore). c.args.number ≤ s.state.opened) (sym (named_nothing _ _ _ _ _ _ c.in-Err-Memory.field-0-is c.in-Err-Memory.ensures.step))
    (opened_now c.args.self.now c.args.number c.args.pass c.start-held.result.0 c.start-held.result.1.core c.requires c.start-held.ensures.entered).1

pub returns-in-Err-Memory : goal.returns-in-Err-Memory
returns-in-Err-Memory g c =
    let step = subst (λ (s : RecordedStore). TakesStep s c.void.new.self.core (void_of c.args.number)) (named_nothing _ _ _ _ _ _ c.in-Err-Memory.field-0-is c.in-Err-Memory.ensures.step) c.void.ensures.step in
    inr (turned c.args.self.now c.args.pass c.start-held.result.0 c.finish-in-Err-Memory.result c.start-held.result.1.core c.void.new.self.core _ c.start-held.ensures.entered step
    (c.finish-in-Err-Memory.ensures c.args.pass c.start-held.result.1.core _ c.start-held.ensures.entered step))

pub returns-in-Ok-name : goal.returns-in-Ok-name
returns-in-Ok-name g c =
    let step = c.in-Ok-name.ensures.step in
    turned c.args.self.now c.args.pass c.start-held.result.0 c.finish.result c.start-held.result.1.core c.name.new.self.core _ c.start-held.ensures.entered step (c.finish.ensures c.args.pass c.start-held.result.1.core _ c.start-held.ensures.entered step)

pub returns-in-Err-Unknown : goal.returns-in-Err-Unknown
returns-in-Err-Unknown g c =
    let step = subst (λ (f : NamingFault). NamesNone f c.start-held.result.1.core c.name.new.self.core c.args.number c.args.kind (parts_of c.args.block.now)) c.in-Err-Unknown.field-0-is c.in-Err-Unknown.ensures.step in
    turned c.args.self.now c.args.pass c.start-held.result.0 c.finish-in-Err-Unknown.result c.start-held.result.1.core c.name.new.self.core _ c.start-held.ensures.entered step
    (c.finish-in-Err-Unknown.ensures c.args.pass c.start-held.result.1.core _ c.start-held.ensures.entered step)

pub returns-in-Err-Full : goal.returns-in-Err-Full
returns-in-Err-Full g c =
    let step = subst (λ (f : NamingFault). NamesNone f c.start-held.result.1.core c.name.new.self.core c.args.number c.args.kind (parts_of c.args.block.now)) c.in-Err-Full.field-0-is c.in-Err-Full.ensures.step in
    turned c.args.self.now c.args.pass c.start-held.result.0 c.finish-in-Err-Full.result c.start-held.result.1.core c.name.new.self.core _ c.start-held.ensures.entered step
    (c.finish-in-Err-Full.ensures c.args.pass c.start-held.result.1.core _ c.start-held.ensures.entered step)
