use Rattle.session_threads.proofs.Playing.{found_pass, on_told, plays_find}
use Rattle.session_threads.proofs.perform.find.Goals as goal

pub returns-clause-lock : goal.returns-clause-lock
returns-clause-lock g c = found_pass (λ v. v.items) c.args.store.now c.args.session c.find-answer.new.self c.args.pattern.now c.find-answer.result c.requires c.find-answer.ensures

pub returns-clause-plays : goal.returns-clause-plays
returns-clause-plays g c = on_told _ _ _ _ _ _ c.tell.ensures c.find_reply-reply.ensures
    (λ r told em. plays_find (λ v. v.items) c.args.store.now c.args.session c.find-answer.new.self c.args.pattern.now c.find-answer.result r _ _ c.requires c.find-answer.ensures told em)
