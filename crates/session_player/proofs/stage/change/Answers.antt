use Rattle.std.specs.Prelude.{MatchBool}
use Rattle.std.proofs.Common.{◌≡◌, Bool, Option, Some, subst}
use Rattle.session_transaction.specs.declared.transaction.OpenTransaction.{OpenTransaction}
use Rattle.session_transaction.specs.Transactions.{changes_of, plain, plain_in, with_changes}
use Rattle.session_transaction.proofs.Blocks.{block_change}
use Rattle.session_player.specs.Ready.{IsReady}
use Rattle.session_player.proofs.Playing.{no_commit, performs_block, performs_refusal}
use Rattle.session_player.proofs.stage.change.Goals as goal

pub returns-in-Err : goal.returns-in-Err
returns-in-Err c =
    let ready : IsReady c.args.core.now c.args.session (Some (plain c.in-Some.open)) = subst (λ (t : Option OpenTransaction). IsReady c.args.core.now c.args.session (plain_in t)) c.in-Some.is c.requires in
    let refused = rw (c.in-Err.is, c.into_list-list.ensures.triples, c.take_block-block.ensures, c.name_kind.ensures) at c.in_ok-named.ensures in
    rw c.in-Some.is (performs_refusal _ _ _ _ _ _ _ _ c.in-Some.open refused.0 _ _ _ (block_change c.args.kind c.args.block.now) (no_commit c.args.kind c.args.block.now) ready refused.2 refused.1 c.in_ok-push-in-Err.ensures.ok)

pub returns : goal.returns
returns c =
    let ready : IsReady c.args.core.now c.args.session (Some (plain c.in-Some.open)) = subst (λ (t : Option OpenTransaction). IsReady c.args.core.now c.args.session (plain_in t)) c.in-Some.is c.requires in
    let done = rw (c.in-Ok.is, c.into_list-list.ensures.triples, c.take_block-block.ensures, c.name_kind.ensures) at c.in_ok-named.ensures in
    let staged : c.with_block-open.result.0 ≡ with_changes c.in-Some.open (changes_of c.args.kind c.into_list-list.result) =
    subst (λ (b : Bool). MatchBool b (c.with_block-open.result.0 ≡ with_changes c.in-Some.open (changes_of c.args.kind c.into_list-list.result)) (c.with_block-open.result.0 ≡ c.in-Some.open)) c.if-not-staged.false c.with_block-open.ensures in
    rw (c.in-Some.is, staged, c.into_list-list.ensures.triples, c.take_block-block.ensures) (performs_block _ _ _ _ _ _ _ _ c.in-Some.open _ _ (block_change c.args.kind c.args.block.now) (no_commit c.args.kind c.args.block.now) ready done (rw (c.reply.ensures, c.len-count.ensures, c.take_block-block.ensures) at c.in_ok-push-2.ensures.ok))
