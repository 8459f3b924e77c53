use Rattle.std.proofs.Common.{subst}
use Rattle.store_model.specs.Store.{RecordedStore}
use Rattle.session_threads.specs.Ends.{EndsNewRun}
use Rattle.session_threads.proofs.Gathering.{new_run_ends}
use Rattle.session_threads.proofs.team.run_new.Goals as goal

pub returns-in-Ok : goal.returns-in-Ok
returns-in-Ok g c = subst (λ (s : RecordedStore). EndsNewRun c.args.files.items s.limits s.start c.in-Ok.ended.run.order.items c.in-Ok.ended.run.replies.items c.in-Ok.ended.core) c.in_ok-core.ensures
    (new_run_ends _ _ _ _ _ c.args.files.items c.in_ok-core.core _ _ _ _ c.in-Ok.ensures.ends)
