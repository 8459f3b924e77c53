use Rattle.std.proofs.Common.{◌≡◌, Bool, Some, None, refl, subst}
use Rattle.std.specs.Prelude.{MatchBool}
use Rattle.session_transaction.specs.declared.transaction.OpenTransaction.{OpenTransaction}
use Rattle.guard_store.specs.declared.faults.BeginFault.TheVariants as faults
use Rattle.guard_store.proofs.Cases.{at_ok, at_err}
use Rattle.guard_store.proofs.Calling.{begins_now}
use Rattle.guard_store.proofs.Fitting.{begins_session, begins_not_session}
use Rattle.guard_store.proofs.store.Store.begin.Goals as goal

pub returns-in-Ok-clause-begins : goal.returns-in-Ok-clause-begins
returns-in-Ok-clause-begins g c =
    let none : c.args.session.current ≡ None = subst (λ (b : Bool). MatchBool b ((w : OpenTransaction) × (c.args.session.current ≡ Some w)) (c.args.session.current ≡ None)) c.if-is_open.false c.is_open.ensures in
    begins_now c.args.self.now c.args.session c.take_begin-pass.result.0 c.in-Ok.snap _ _ none (at_ok _ _ _ _ c.in-Ok.is (rw c.into_parts-pass.ensures at c.take_begin-pass.ensures)) c.number-version.ensures (rw (c.from_parts.ensures, c.into_parts-pass.ensures, c.new-open.ensures) refl)

pub returns-in-Ok-clause-session : goal.returns-in-Ok-clause-session
returns-in-Ok-clause-session g c = begins_session c.args.self.now c.args.session _ c.number-version.result c.requires (returns-in-Ok-clause-begins g c)

pub returns-in-Err-clause-session : goal.returns-in-Err-clause-session
returns-in-Err-clause-session g c =
    let none : c.args.session.current ≡ None = subst (λ (b : Bool). MatchBool b ((w : OpenTransaction) × (c.args.session.current ≡ Some w)) (c.args.session.current ≡ None)) c.if-is_open.false c.is_open.ensures in
    rw c.from_parts-session.ensures (begins_not_session c.args.self.now c.args.session _ faults.Memory c.requires (none, at_err _ _ _ _ c.in-Err.is (rw c.into_parts-pass.ensures at c.take_begin-pass.ensures), rw c.into_parts-pass.ensures refl))
