use Rattle.std.proofs.Common.{◌∙◌, ap, string_bytes}
use Rattle.shacl_guard.specs.declared.answer.Answer.{Answer}
use Rattle.shacl_guard.specs.Statuses.{of_fault}
use Rattle.shacl_guard.proofs.LogRuns.{first_numbers_fit, logged_answers, none_opened}
use Rattle.shacl_guard.proofs.logged.answer_logged.Goals as goal

pub run_stored-text-requires-clause-unopened : goal.run_stored-text-requires-clause-unopened
run_stored-text-requires-clause-unopened g c = λ κs o. none_opened _ _ c.in-Ok.stored.core c.in-Ok.ensures.answer.are_restored.store

pub run_stored-text-requires-clause-numbers : goal.run_stored-text-requires-clause-numbers
run_stored-text-requires-clause-numbers g c = λ κs o. first_numbers_fit c.in-Ok.stored.first_numbers c.in-Ok.ensures.answer.are_restored.first_within

pub returns-in-Ok-clause-answer : goal.returns-in-Ok-clause-answer
returns-in-Ok-clause-answer g c =
    logged_answers (λ (a : Answer). a.status) (λ (a : Answer). a.text) string_bytes g.D.Disk.tells g.D.Disk.bytes g.D.Disk.history g.D.Disk.chosen g.D.Disk.faults (g.F.Files.holds c.args.files.now) c.args.logged.now c.args.disk c.into_disk.result c.in-Ok.stored.core c.in-Ok.stored.log c.run_stored-text.result.1 c.in-Ok.stored.first_numbers
    _ _ _ _ _ c.log_status-status.result c.run_stored-text.result.0 c.run_answer.result
    (rw c.len-count.ensures at c.in-Ok.ensures.answer) (rw c.as_str.ensures at c.in-Ok.ensures.blames) c.in-Ok.ensures.kept c.in-Ok.ensures.refused c.into_disk.ensures c.run_stored-text.ensures.chosen (c.log_status-status.ensures ∙ ap of_fault c.is_closed.ensures) c.run_stored-text.ensures.log_kept (rw c.as_slice-names.ensures at c.run_stored-text.ensures.answer) c.run_answer.ensures
