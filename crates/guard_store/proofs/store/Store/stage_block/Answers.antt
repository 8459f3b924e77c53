use Rattle.std.proofs.Common.{◌≡◌, Bool, Some, None, subst}
use Rattle.std.specs.Prelude.{MatchBool}
use Rattle.session_transaction.specs.declared.transaction.OpenTransaction.{OpenTransaction}
use Rattle.guard_store.proofs.Calling.{block_answered, closed_block, not_none}
use Rattle.guard_store.proofs.store.Store.stage_block.Goals as goal

pub returns-then-not-is_open-clause-stages : goal.returns-then-not-is_open-clause-stages
returns-then-not-is_open-clause-stages g c =
    let none = subst (λ (b : Bool). MatchBool b ((w : OpenTransaction) × (c.args.session.current ≡ Some w)) (c.args.session.current ≡ None)) c.if-not-is_open.true c.is_open.ensures in
    closed_block c.args.self.now c.args.session c.args.kind c.args.block none

pub stage_list-requires-clause-open : goal.stage_list-requires-clause-open
stage_list-requires-clause-open g c =
    let is = subst (λ (b : Bool). MatchBool b ((w : OpenTransaction) × (c.args.session.current ≡ Some w)) (c.args.session.current ≡ None)) c.if-not-is_open.false c.is_open.ensures in
    not_none _ is

pub returns-clause-stages : goal.returns-clause-stages
returns-clause-stages g c = block_answered c.args.self.now c.args.session c.stage_list.result.0 c.args.kind c.args.block c.stage_list.result.1 (rw c.into_list.ensures.triples at c.stage_list.ensures.stages)
