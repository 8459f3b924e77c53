use Rattle.session_transaction.specs.Transactions.{changes_of, name_kind_of, with_changes}
use Rattle.guard_store.proofs.Cases.{at_ok, at_err}
use Rattle.guard_store.proofs.Calling.{named_open, stage_now, stage_session}
use Rattle.guard_store.proofs.Fitting.{not_staged_session}
use Rattle.guard_store.proofs.store.Store.stage_list.Goals as goal

pub with_block-requires : goal.with_block-requires
with_block-requires g c = named_open c.args.self.now c.args.session c.name_for-session.result.0 c.name_kind.result c.args.block (at_ok _ _ _ _ c.in-Ok.is c.name_for-session.ensures)

pub returns-in-Ok-clause-stages : goal.returns-in-Ok-clause-stages
returns-in-Ok-clause-stages g c =
    stage_now c.args.self.now c.args.session c.name_for-session.result.0 c.with_block.result.0 (name_kind_of c.args.kind) c.args.block (λ w. with_changes w (changes_of c.args.kind c.args.block)) c.with_block.result.1
    (at_ok _ _ _ _ c.in-Ok.is (rw c.name_kind.ensures at c.name_for-session.ensures)) c.with_block.ensures

pub returns-in-Ok-clause-session : goal.returns-in-Ok-clause-session
returns-in-Ok-clause-session g c = stage_session c.args.self.now c.args.session c.with_block.result.0 (name_kind_of c.args.kind) c.args.kind c.args.block c.with_block.result.1 c.requires.readable c.requires.session (returns-in-Ok-clause-stages g c)

pub returns-in-Err-clause-stages : goal.returns-in-Err-clause-stages
returns-in-Err-clause-stages g c = at_err _ _ _ _ c.in-Err.is (rw c.name_kind.ensures at c.name_for-session.ensures)

pub returns-in-Err-clause-session : goal.returns-in-Err-clause-session
returns-in-Err-clause-session g c = not_staged_session c.args.self.now c.args.session c.name_for-session.result.0 c.name_kind.result c.args.block c.in-Err.fault c.requires.session (at_err _ _ _ _ c.in-Err.is c.name_for-session.ensures)
