use Rattle.store_model.specs.declared.event.NameKind.TheVariants.{Fresh}
use Rattle.session_transaction.specs.Transactions.{with_shapes}
use Rattle.guard_store.proofs.Cases.{at_ok, at_err}
use Rattle.guard_store.proofs.Calling.{never_unknown, staged_answer, stages_now}
use Rattle.guard_store.proofs.Fitting.{stages_shapes_session, stages_not_session}
use Rattle.guard_store.proofs.store.Store.stage_shapes.Goals as goal

pub stage_answer-requires : goal.stage_answer-requires
stage_answer-requires g c = never_unknown c.args.self.now c.args.session c.name_for-session.result.0 Fresh c.args.shapes _ c.name_for-session.result.1 (λ e. cc) (rw (c.in-Ok.ensures, c.triples.ensures) at c.name_for-session.ensures)

pub returns-in-Ok-stage_answer-clause-stages : goal.returns-in-Ok-stage_answer-clause-stages
returns-in-Ok-stage_answer-clause-stages g c =
    let named = at_ok _ _ _ _ c.in-Ok-stage_answer.is (staged_answer c.args.self.now c.args.session c.name_for-session.result.0 Fresh c.args.shapes _ c.name_for-session.result.1 c.stage_answer.result c.stage_answer.ensures (rw (c.in-Ok.ensures, c.triples.ensures) at c.name_for-session.ensures)) in
    stages_now c.args.self.now c.args.session c.name_for-session.result.0 c.with_shapes.result Fresh c.args.shapes (λ w. with_shapes w c.args.shapes) named c.with_shapes.ensures

pub returns-in-Ok-stage_answer-clause-session : goal.returns-in-Ok-stage_answer-clause-session
returns-in-Ok-stage_answer-clause-session g c = stages_shapes_session c.args.self.now c.args.session c.with_shapes.result c.args.shapes c.requires.readable c.requires.session (returns-in-Ok-stage_answer-clause-stages g c)

pub returns-in-Err-clause-stages : goal.returns-in-Err-clause-stages
returns-in-Err-clause-stages g c =
    at_err _ _ _ _ c.in-Err.is (staged_answer c.args.self.now c.args.session c.name_for-session.result.0 Fresh c.args.shapes _ c.name_for-session.result.1 c.stage_answer.result c.stage_answer.ensures (rw (c.in-Ok.ensures, c.triples.ensures) at c.name_for-session.ensures))

pub returns-in-Err-clause-session : goal.returns-in-Err-clause-session
returns-in-Err-clause-session g c = stages_not_session c.args.self.now c.args.session c.name_for-session.result.0 Fresh c.args.shapes c.in-Err.fault c.requires.session (returns-in-Err-clause-stages g c)
