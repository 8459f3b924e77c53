use Rattle.session_transaction.proofs.Blocks.{block_shapes}
use Rattle.session_threads.proofs.Playing.{on_told, plays_stage}
use Rattle.session_threads.proofs.perform.stage.Goals as goal

pub returns-clause-lock : goal.returns-clause-lock
returns-clause-lock g c = c.stage_shapes-session.ensures.session.caller.lock

pub returns-clause-plays : goal.returns-clause-plays
returns-clause-plays g c = on_told _ _ _ _ _ _ c.tell.ensures (rw c.triples-count.ensures at c.stage_reply-reply.ensures)
    (λ r told em. plays_stage c.args.store.now c.args.session c.stage_shapes-session.result.0 _ _ c.args.shapes.now _ _ (block_shapes c.args.shapes.now) c.stage_shapes-session.result.1 r _ _ c.requires.session c.stage_shapes-session.ensures.session
    (rw c.in-Ok.ensures at c.stage_shapes-session.ensures.stages) told em)
