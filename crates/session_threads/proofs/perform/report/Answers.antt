use Rattle.session_threads.proofs.Playing.{on_told, plays_report}
use Rattle.session_threads.proofs.perform.report.Goals as goal

pub returns-clause-lock : goal.returns-clause-lock
returns-clause-lock g c = c.requires.caller.lock

pub returns-clause-plays : goal.returns-clause-plays
returns-clause-plays g c = on_told _ _ _ _ _ _ c.tell.ensures c.report_reply-reply.ensures (λ r told em. plays_report c.args.store.now c.args.session c.report-answer.result r _ _ c.requires c.report-answer.ensures told em)
