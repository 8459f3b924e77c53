use Rattle.std.proofs.Common.{◌≡◌, Bool, Some, None, subst}
use Rattle.std.specs.Prelude.{MatchBool}
use Rattle.session_transaction.specs.declared.transaction.OpenTransaction.{OpenTransaction}
use Rattle.session_transaction.specs.Transactions.{name_kind_of}
use Rattle.guard_store.proofs.Calling.{never_named, not_none}
use Rattle.guard_store.proofs.store.Store.stage_copied.Goals as goal

pub returns-in_default-clause-stages : goal.returns-in_default-clause-stages
returns-in_default-clause-stages g c =
    let is = subst (λ (b : Bool). MatchBool b ((w : OpenTransaction) × (c.args.session.current ≡ Some w)) (c.args.session.current ≡ None)) c.if-not-is_open.false c.is_open.ensures in
    never_named c.args.self.now c.args.session (name_kind_of c.args.kind) c.args.triples.now is

pub stage_list-requires-clause-open : goal.stage_list-requires-clause-open
stage_list-requires-clause-open g c =
    let is = subst (λ (b : Bool). MatchBool b ((w : OpenTransaction) × (c.args.session.current ≡ Some w)) (c.args.session.current ≡ None)) c.if-not-is_open.false c.is_open.ensures in
    not_none _ is
