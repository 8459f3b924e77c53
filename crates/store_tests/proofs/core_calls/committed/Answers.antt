use Rattle.std.proofs.Common.{[], Option, subst, sym}
use Rattle.commit_core.specs.declared.commit.CheckedTransaction.{CheckedTransaction}
use Rattle.commit_core.specs.Verdicts.{AreOfVerdict}
use Rattle.store_model.specs.declared.commit.Verdict.{Verdict}
use Rattle.store_model.specs.Store.{IsCommittable}
use Rattle.store_tests.proofs.core_calls.committed.Goals as goal

pub commit-requires-clause-committable : goal.commit-requires-clause-committable
commit-requires-clause-committable g c κs within =
    let store = c.args.core.now in
    subst (λ (k : CheckedTransaction). IsCommittable store.state k.transaction) (sym c.unchecked-checked.ensures) (c.in_ok-transaction.ensures.committable store.state)

pub commit-requires-clause-verdict : goal.commit-requires-clause-verdict
commit-requires-clause-verdict g c κs within =
    let store = c.args.core.now in
    let net = c.in_ok-transaction.transaction.net in
    subst (λ (k : CheckedTransaction). AreOfVerdict store k.transaction.net k.transaction.verdict k.pairs) (sym c.unchecked-checked.ensures)
    (subst (λ (v : Option Verdict). AreOfVerdict store net v []) (sym c.in_ok-transaction.ensures.unchecked) tt)
