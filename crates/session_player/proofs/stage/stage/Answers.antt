use Rattle.std.proofs.Common.{Option, Some, refl, subst}
use Rattle.session_transaction.specs.declared.transaction.OpenTransaction.{OpenTransaction}
use Rattle.session_transaction.specs.Transactions.{plain, plain_in}
use Rattle.session_transaction.proofs.Blocks.{block_shapes}
use Rattle.session_player.specs.Ready.{IsReady}
use Rattle.session_player.proofs.Playing.{performs_block, performs_refusal}
use Rattle.session_player.proofs.stage.stage.Goals as goal

pub returns-in-Err : goal.returns-in-Err
returns-in-Err c =
    let ready : IsReady c.args.core.now c.args.session (Some (plain c.in-Some.open)) = subst (λ (t : Option OpenTransaction). IsReady c.args.core.now c.args.session (plain_in t)) c.in-Some.is c.requires in
    let refused = rw (c.in-Err.is, c.in_ok-block.ensures, c.triples.ensures, c.graph-graph.ensures) at c.in_ok-named.ensures in
    rw c.in-Some.is (performs_refusal _ _ _ _ _ _ _ _ c.in-Some.open refused.0 _ _ _ (block_shapes c.args.shapes.now) refl ready refused.2 refused.1 c.in_ok-push-in-Err.ensures.ok)

pub returns : goal.returns
returns c =
    let ready : IsReady c.args.core.now c.args.session (Some (plain c.in-Some.open)) = subst (λ (t : Option OpenTransaction). IsReady c.args.core.now c.args.session (plain_in t)) c.in-Some.is c.requires in
    let done = rw (c.in-Ok.is, c.in_ok-block.ensures, c.triples.ensures, c.graph-graph.ensures) at c.in_ok-named.ensures in
    rw (c.in-Some.is, c.with_shapes-open.ensures, c.in_ok-copy.ensures, c.graph-graph.ensures) (performs_block _ _ _ _ _ _ _ _ c.in-Some.open _ _ (block_shapes c.args.shapes.now) refl ready done (rw (c.triples-2.ensures, c.graph-graph.ensures) at c.in_ok-push-2.ensures.ok))
