use Rattle.std.proofs.Common.{Some, ap, refl, subst}
use Rattle.guard_store.specs.Sessions.{StoreSession}
use Rattle.guard_store.specs.Callers.{HasWork}
use Rattle.guard_store.specs.Answers.{IsOpen}
use Rattle.session_transaction.specs.declared.transaction.OpenTransaction.{OpenTransaction}
use Rattle.session_transaction.proofs.Checking.{back_again}
use Rattle.guard_store.specs.declared.faults.CommitFault.TheVariants as faults
use Rattle.guard_store.proofs.Cases.{at_ok, at_err}
use Rattle.guard_store.proofs.Calling.{commits_now}
use Rattle.guard_store.proofs.Fitting.{committable_open, commits_session, commits_not_session, loggable_open, open_kept, verdict_open}
use Rattle.guard_store.proofs.store.Store.commit_work.Goals as goal

pub take_commit-pass-requires-clause-caller : goal.take_commit-pass-requires-clause-caller
take_commit-pass-requires-clause-caller g c κs within = rw c.into_parts-pass.ensures c.requires.session.caller

pub take_commit-pass-requires-clause-committable : goal.take_commit-pass-requires-clause-committable
take_commit-pass-requires-clause-committable g c κs within =
    let o : IsOpen c.args.session c.in-Some.open = rw c.into_parts-pass.ensures at c.in-Some.is in
    rw (c.into_parts-pass.ensures, c.into_parts-handed.ensures) (committable_open c.args.self.now c.args.session c.in-Some.open c.requires.session o (subst HasWork o c.requires.work))

pub take_commit-pass-requires-clause-loggable : goal.take_commit-pass-requires-clause-loggable
take_commit-pass-requires-clause-loggable g c κs within =
    let o : IsOpen c.args.session c.in-Some.open = rw c.into_parts-pass.ensures at c.in-Some.is in
    rw c.into_parts-handed.ensures (loggable_open c.args.self.now c.args.session c.in-Some.open c.requires.session o)

pub take_commit-pass-requires-clause-kept : goal.take_commit-pass-requires-clause-kept
take_commit-pass-requires-clause-kept g c κs within =
    let o : IsOpen c.args.session c.in-Some.open = rw c.into_parts-pass.ensures at c.in-Some.is in
    rw (c.into_parts-pass.ensures, c.into_parts-handed.ensures) (verdict_open c.args.self.now c.args.session c.in-Some.open c.requires.session o)

pub returns-in-Ok-clause-commits : goal.returns-in-Ok-clause-commits
returns-in-Ok-clause-commits g c =
    let o : IsOpen c.args.session c.in-Some.open = rw c.into_parts-pass.ensures at c.in-Some.is in
    let turn = at_ok _ _ _ _ c.in-Ok.is (rw (c.into_parts-pass.ensures, c.into_parts-handed.ensures) at c.take_commit-pass.ensures.commits) in
    commits_now c.args.self.now c.args.session c.take_commit-pass.result.0 c.in-Some.open c.in-Ok.committed _ o (subst HasWork o c.requires.work) turn (rw (c.from_parts.ensures, c.into_parts-pass.ensures) refl)

pub returns-in-Ok-clause-session : goal.returns-in-Ok-clause-session
returns-in-Ok-clause-session g c = commits_session c.args.self.now c.args.session _ c.in-Ok.committed c.requires.session (returns-in-Ok-clause-commits g c)

pub returns-in-Ok-clause-steps : goal.returns-in-Ok-clause-steps
returns-in-Ok-clause-steps g c =
    let o : IsOpen c.args.session c.in-Some.open = rw c.into_parts-pass.ensures at c.in-Some.is in
    let turn = at_ok _ _ _ _ c.in-Ok.is (rw (c.into_parts-pass.ensures, c.into_parts-handed.ensures) at c.take_commit-pass.ensures.steps) in
    (c.in-Some.open, o, rw c.from_parts.ensures turn)

pub returns-in-Err-clause-commits : goal.returns-in-Err-clause-commits
returns-in-Err-clause-commits g c =
    let o : IsOpen c.args.session c.in-Some.open = rw c.into_parts-pass.ensures at c.in-Some.is in
    let back = at_err _ _ _ _ c.in-Err.is (rw (c.into_parts-pass.ensures, c.into_parts-handed.ensures) at c.take_commit-pass.ensures.commits) in
    let bare = (open_kept c.args.self.now c.args.session c.in-Some.open c.requires.session o).0 in
    rw c.from_parts-session.ensures (
      c.in-Some.open,
      o,
      subst HasWork o c.requires.work,
      back.1,
      rw (c.into_parts-pass.ensures, c.from_parts-open.ensures, back.0, c.into_parts-handed.ensures, o)
          (ap (λ (w : OpenTransaction). let s : StoreSession = record { pass = c.take_commit-pass.result.0; number = c.args.session.number; current = Some w; head = c.args.session.head } in s) (back_again c.in-Some.open bare)),
    )

pub returns-in-Err-clause-steps : goal.returns-in-Err-clause-steps
returns-in-Err-clause-steps g c = at_err _ _ _ _ c.in-Err.is c.take_commit-pass.ensures.steps

pub returns-in-Err-clause-session : goal.returns-in-Err-clause-session
returns-in-Err-clause-session g c = commits_not_session c.args.self.now c.args.session _ faults.Memory c.requires.session (returns-in-Err-clause-commits g c)
