use Rattle.session_threads.proofs.Playing.{on_told, plays_block}
use Rattle.session_threads.proofs.perform.change.Goals as goal

pub returns-clause-lock : goal.returns-clause-lock
returns-clause-lock g c = c.stage_block-session.ensures.session.caller.lock

pub returns-clause-plays : goal.returns-clause-plays
returns-clause-plays g c = on_told _ _ _ _ _ _ c.tell.ensures (rw (c.reply.ensures, c.len-count.ensures, c.take_block-block.ensures) at c.block_reply-reply.ensures)
    (λ r told em. plays_block c.args.store.now c.args.session c.stage_block-session.result.0 c.args.kind c.args.block.now c.stage_block-session.result.1 r _ _ c.requires c.stage_block-session.ensures.session
    (rw c.take_block-block.ensures at c.stage_block-session.ensures.stages) told em)
