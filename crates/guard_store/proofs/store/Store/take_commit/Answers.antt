use Rattle.std.proofs.Common.{◌≤◌, inr, sym, subst}
use Rattle.store_model.specs.Store.{State, RecordedStore, TakesStep}
use Rattle.session_transaction.specs.Commits.{CountsFor, IsAnswer}
use Rattle.guard_store.specs.Fronts.{void_of}
use Rattle.guard_store.proofs.Turning.{may_own, opened_now, turned, turned_with}
use Rattle.guard_store.proofs.Fitting.{committable_now, verdict_now}
use Rattle.guard_store.proofs.Calling.{turn_commits, turn_counts}
use Rattle.guard_store.proofs.store.Store.take_commit.Goals as goal

pub commit-requires-clause-opened : goal.commit-requires-clause-opened
commit-requires-clause-opened g c κs within = opened_now c.args.self.now c.args.number c.args.pass c.start-held.result.0 c.start-held.result.1.core c.requires.caller c.start-held.ensures.entered

pub commit-requires-clause-committable : goal.commit-requires-clause-committable
commit-requires-clause-committable g c κs within = committable_now c.args.self.now c.args.pass c.start-held.result.0 c.start-held.result.1.core c.args.handed.transaction c.start-held.ensures.entered c.requires.committable

pub commit-requires-clause-verdict : goal.commit-requires-clause-verdict
commit-requires-clause-verdict g c κs within =
    let x = c.args.handed in
    verdict_now c.args.self.now c.args.pass c.start-held.result.0 c.start-held.result.1.core x.transaction.net x.transaction.verdict x.pairs c.start-held.ensures.entered c.requires.kept

pub finish-requires-clause-step : goal.finish-requires-clause-step
finish-requires-clause-step g c = may_own c.args.self.now c.args.pass c.start-held.result.0 c.start-held.result.1.core c.commit.new.self.core _ c.requires.caller.own c.start-held.ensures.entered c.in-Ok-commit.ensures.answer.step

pub returns-in-Ok-commit-clause-commits : goal.returns-in-Ok-commit-clause-commits
returns-in-Ok-commit-clause-commits g c =
    let done = c.in-Ok-commit.ensures.answer in
    let t = turned_with c.args.self.now c.args.pass c.start-held.result.0 c.finish.result c.start-held.result.1.core c.commit.new.self.core _ (λ (s : State). IsAnswer s c.args.handed.transaction done.reply c.in-Ok-commit.committed)
    c.start-held.ensures.entered done.step (c.finish.ensures c.args.pass c.start-held.result.1.core _ c.start-held.ensures.entered done.step) done.told in
    turn_commits c.args.self.now c.args.pass c.finish.result c.args.number c.args.handed.transaction done.reply c.in-Ok-commit.committed t.0 t.1

pub returns-in-Ok-commit-clause-steps : goal.returns-in-Ok-commit-clause-steps
returns-in-Ok-commit-clause-steps g c =
    let done = c.in-Ok-commit.ensures.answer in
    let x = c.args.handed.transaction in
    let t = turned_with c.args.self.now c.args.pass c.start-held.result.0 c.finish.result c.start-held.result.1.core c.commit.new.self.core _
    (λ (s : State). IsAnswer s x done.reply c.in-Ok-commit.committed × CountsFor c.in-Ok-commit.committed s x c.args.steps.now c.commit.new.steps)
    c.start-held.ensures.entered done.step (c.finish.ensures c.args.pass c.start-held.result.1.core _ c.start-held.ensures.entered done.step) (done.told, done.counts) in
    turn_counts c.args.self.now c.args.pass c.finish.result c.args.number x done.reply c.in-Ok-commit.committed _ _ t.0 t.1.0 t.1.1

pub void-requires : goal.void-requires
void-requires g c = subst (λ (s : RecordedStore). c.args.number ≤ s.state.opened) (sym c.in-Err.ensures.answer.1)
    (opened_now c.args.self.now c.args.number c.args.pass c.start-held.result.0 c.start-held.result.1.core c.requires.caller c.start-held.ensures.entered).1

pub returns-in-Err-clause-commits : goal.returns-in-Err-clause-commits
returns-in-Err-clause-commits g c =
    let step = subst (λ (s : RecordedStore). TakesStep s c.void.new.self.core (void_of c.args.number)) c.in-Err.ensures.answer.1 c.void.ensures.step in (
      c.in-Err.ensures.answer.0,
      inr (turned c.args.self.now c.args.pass c.start-held.result.0 c.finish-in-Err.result c.start-held.result.1.core c.void.new.self.core _ c.start-held.ensures.entered step
          (c.finish-in-Err.ensures c.args.pass c.start-held.result.1.core _ c.start-held.ensures.entered step)),
    )
