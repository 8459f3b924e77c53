use Rattle.commit_core.proofs.LoggedCommits.{crash_by, in_step_by}
use Rattle.commit_core.proofs.store.Core.commit_logged.Goals as goal

pub returns-clause-step : goal.returns-clause-step
returns-clause-step g c base k = in_step_by _ _ _ _ base c.args.self.now c.commit_to_log.new.self c.recall_consistent.ensures c.args.session c.args.checked c.args.log.now c.commit_to_log.new.log c.commit_to_log.result c.commit_to_log.ensures.answer c.commit_to_log.ensures.log k

pub returns-clause-crash : goal.returns-clause-crash
returns-clause-crash g c base k on t = crash_by _ _ _ base c.args.self.now c.commit_to_log.new.self c.recall_consistent.ensures c.args.checked.transaction on _ c.args.log.now c.commit_to_log.new.log c.commit_to_log.result c.commit_to_log.ensures.log k t
