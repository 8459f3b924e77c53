use Rattle.std.proofs.Common.{List, reverse, subst, sym}
use Rattle.session_model.specs.declared.reply.SessionReply.{SessionReply}
use Rattle.session_threads.specs.Ends.{EndsRun}
use Rattle.session_threads.proofs.Gathering.{leaves, never_began, run_ends, sound_new}
use Rattle.session_threads.proofs.team.run_all.Goals as goal

pub play_files-requires-clause-keeper : goal.play_files-requires-clause-keeper
play_files-requires-clause-keeper g c κs within = sound_new c.in-Ok.made.0 c.in-Ok.made.1 c.in-Ok.ensures.keeper c.in-Ok.ensures.opened.1

pub returns-in-Err-clause-back : goal.returns-in-Err-clause-back
returns-in-Err-clause-back g c = (c.args.core, never_began g.D.Disk.tells g.D.Disk.bytes g.D.Disk.history g.D.Disk.chosen g.D.Disk.faults c.args.core c.args.log c.in-Err.log c.requires.fresh c.requires.running c.requires.beside c.recall_consistent.ensures.replays c.in-Err.ensures.back.1)

pub returns-in-Err-play_files-clause-back : goal.returns-in-Err-play_files-clause-back
returns-in-Err-play_files-clause-back g c =
    let done = c.close-log.ensures in
    (c.close-log.result.0, leaves g.D.Disk.tells g.D.Disk.bytes g.D.Disk.history g.D.Disk.chosen g.D.Disk.faults c.args.core c.args.log c.in-Ok.made.0 c.in-Ok.ensures.limits c.in-Ok.ensures.start c.in-Ok.ensures.log c.close-log.result.0 c.close-log.result.1 done.limits done.start done.replays done.log)

pub returns-in-Err-order-clause-back : goal.returns-in-Err-order-clause-back
returns-in-Err-order-clause-back g c =
    let done = c.close-core.ensures in
    (c.close-core.result.0, leaves g.D.Disk.tells g.D.Disk.bytes g.D.Disk.history g.D.Disk.chosen g.D.Disk.faults c.args.core c.args.log c.in-Ok.made.0 c.in-Ok.ensures.limits c.in-Ok.ensures.start c.in-Ok.ensures.log c.close-core.result.0 c.close-core.result.1 done.limits done.start done.replays done.log)

pub returns-in-Ok-order-clause-ends : goal.returns-in-Ok-order-clause-ends
returns-in-Ok-order-clause-ends g c =
    let done = c.close-core.ensures in
    let played = c.in-Ok-play_files.ensures in
    let files = c.args.files.items in
    let ends = run_ends g.D.Disk.tells g.D.Disk.bytes g.D.Disk.history g.D.Disk.chosen g.D.Disk.faults c.args.core c.args.log c.in-Ok.made.0 c.in-Ok.ensures.limits c.in-Ok.ensures.start c.in-Ok.ensures.log files c.in-Ok-play_files.played.0 c.close-core.result.0 c.close-core.result.1 c.in-Ok-order.order.items (reverse c.in-Ok-play_files.played.1.items)
    played.keeper played.opened played.met done.history done.limits done.start done.replays done.log c.in-Ok-order.ensures in
    subst (λ (rs : List (List SessionReply)). EndsRun g.D.Disk.tells g.D.Disk.bytes g.D.Disk.history g.D.Disk.chosen g.D.Disk.faults files c.args.core c.args.log c.in-Ok-order.order.items rs c.close-core.result.0 c.close-core.result.1) (sym c.reverse.ensures.items) ends
