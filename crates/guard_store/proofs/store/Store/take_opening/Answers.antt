use Rattle.std.proofs.Common.{inr, refl, subst}
use Rattle.store_model.specs.Store.{RecordedStore, TakesStep}
use Rattle.guard_store.specs.Fronts.{void_of}
use Rattle.guard_store.proofs.Turning.{may_first, open_reserved, turned, opened_full, opened_nothing}
use Rattle.guard_store.proofs.store.Store.take_opening.Goals as goal

pub finish-requires-clause-step : goal.finish-requires-clause-step
finish-requires-clause-step g c =
    may_first c.args.self.now c.args.pass c.start-held.result.0 c.start-held.result.1.core c.session.new.self.core _ c.requires.first
    (open_reserved c.args.self.now c.args.pass c.start-held.result.0 c.start-held.result.1.core c.session.new.self.core _ refl c.start-held.ensures.entered c.in-Ok-session.ensures.step) c.start-held.ensures.entered c.in-Ok-session.ensures.step

pub returns-in-Err-SessionsFull : goal.returns-in-Err-SessionsFull
returns-in-Err-SessionsFull g c =
    let step = opened_full _ _ _ c.in-Err-SessionsFull.field-0-is c.in-Err-SessionsFull.ensures.step in
    turned c.args.self.now c.args.pass c.start-held.result.0 c.finish-in-Err-SessionsFull.result c.start-held.result.1.core c.session.new.self.core _ c.start-held.ensures.entered step
    (c.finish-in-Err-SessionsFull.ensures c.args.pass c.start-held.result.1.core _ c.start-held.ensures.entered step)

pub returns-in-Err-Memory : goal.returns-in-Err-Memory
returns-in-Err-Memory g c =
    let step = subst (λ (s : RecordedStore). TakesStep s c.void.new.self.core (void_of 0)) (opened_nothing _ _ _ c.in-Err-Memory.field-0-is c.in-Err-Memory.ensures.step) c.void.ensures.step in
    inr (turned c.args.self.now c.args.pass c.start-held.result.0 c.finish-in-Err-Memory.result c.start-held.result.1.core c.void.new.self.core _ c.start-held.ensures.entered step
    (c.finish-in-Err-Memory.ensures c.args.pass c.start-held.result.1.core _ c.start-held.ensures.entered step))

pub returns-in-Ok-session : goal.returns-in-Ok-session
returns-in-Ok-session g c =
    turned c.args.self.now c.args.pass c.start-held.result.0 c.finish.result c.start-held.result.1.core c.session.new.self.core _ c.start-held.ensures.entered c.in-Ok-session.ensures.step
    (c.finish.ensures c.args.pass c.start-held.result.1.core _ c.start-held.ensures.entered c.in-Ok-session.ensures.step)
