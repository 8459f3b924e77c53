use Rattle.session_threads.proofs.Playing.{few_rows, on_told, plays_select, selected_pass}
use Rattle.session_threads.proofs.perform.select.Goals as goal

pub select_reply-reply-requires : goal.select_reply-reply-requires
select_reply-reply-requires g c = few_rows (λ v. v.items) c.args.session c.select-answer.new.self c.args.patterns.now c.select-answer.result (rw c.as_slice.ensures at c.select-answer.ensures)

pub returns-clause-lock : goal.returns-clause-lock
returns-clause-lock g c = selected_pass (λ v. v.items) c.args.store.now c.args.session c.select-answer.new.self c.args.patterns.now c.select-answer.result c.requires (rw c.as_slice.ensures at c.select-answer.ensures)

pub returns-clause-plays : goal.returns-clause-plays
returns-clause-plays g c = on_told _ _ _ _ _ _ c.tell.ensures c.select_reply-reply.ensures
    (λ r told em. plays_select (λ v. v.items) c.args.store.now c.args.session c.select-answer.new.self c.args.patterns.now c.select-answer.result r _ _ c.requires (rw c.as_slice.ensures at c.select-answer.ensures) told em)
