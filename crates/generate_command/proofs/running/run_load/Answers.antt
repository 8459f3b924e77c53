use Rattle.std.proofs.Common.{◌∙◌, length, ap, arith, string_bytes}
use Rattle.generate_command.proofs.Sessions.{count_of_run, told}
use Rattle.generate_command.proofs.running.run_load.Goals as goal

pub load_text-requires : goal.load_text-requires
load_text-requires g c =
    let count = count_of_run _ _ _ _ _ c.in_ok-run.ensures.ends.0 in
    omega (arith, ap length c.deref.ensures.value, count, ap length c.into_vec.ensures, c.in_ok-all.ensures.four)

pub returns-clause-load : goal.returns-clause-load
returns-clause-load g c =
    let run = rw c.into_vec.ensures at c.in_ok-run.ensures in
    let end = run.ends in
    told string_bytes c.load_text.result c.args.n _ _ c.in_ok-all.all _ c.in_ok-run.field-0.run.replies.items _ c.triples-triples.result c.in_ok-all.ensures.four c.in_ok-all.ensures.sessions
    (end.0, c.triples-triples.ensures ∙ end.1) c.deref.ensures.value c.load_text.ensures
