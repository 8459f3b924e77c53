use Rattle.std.proofs.Common.{◌≡◌, Bool, Some, None, refl, subst}
use Rattle.std.specs.Prelude.{MatchBool}
use Rattle.guard_store.specs.declared.faults.HeadFault.TheVariants as faults
use Rattle.session_transaction.specs.declared.transaction.OpenTransaction.{OpenTransaction}
use Rattle.guard_store.proofs.Cases.{at_ok, at_err}
use Rattle.guard_store.proofs.Calling.{heads_now}
use Rattle.guard_store.proofs.Fitting.{heads_session, heads_not_session}
use Rattle.guard_store.proofs.store.Store.head.Goals as goal

pub returns-in-Ok-clause-heads : goal.returns-in-Ok-clause-heads
returns-in-Ok-clause-heads g c =
    let is = subst (λ (b : Bool). MatchBool b ((w : OpenTransaction) × (c.args.session.current ≡ Some w)) (c.args.session.current ≡ None)) c.if-not-is_open.false c.is_open.ensures in
    heads_now c.args.self.now c.args.session c.take_head-pass.result.0 c.in-Ok.snap _ _ is (at_ok _ _ _ _ c.in-Ok.is (rw c.into_parts-pass.ensures at c.take_head-pass.ensures)) c.number-newest.ensures (rw (c.from_parts-session.ensures, c.into_parts-pass.ensures) refl)

pub returns-in-Ok-clause-session : goal.returns-in-Ok-clause-session
returns-in-Ok-clause-session g c = heads_session c.args.self.now c.args.session _ c.number-newest.result c.requires (returns-in-Ok-clause-heads g c)

pub returns-in-Err-clause-session : goal.returns-in-Err-clause-session
returns-in-Err-clause-session g c =
    let is = subst (λ (b : Bool). MatchBool b ((w : OpenTransaction) × (c.args.session.current ≡ Some w)) (c.args.session.current ≡ None)) c.if-not-is_open.false c.is_open.ensures in
    rw c.from_parts.ensures (heads_not_session c.args.self.now c.args.session _ faults.Memory c.requires (is, at_err _ _ _ _ c.in-Err.is (rw c.into_parts-pass.ensures at c.take_head-pass.ensures), rw c.into_parts-pass.ensures refl))
