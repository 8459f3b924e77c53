use Rattle.std.proofs.Common.{◌∙◌, append_assoc}
use Rattle.shacl_guard.proofs.answer.bad_session_line.Goals as goal

pub returns : goal.returns
returns c = c.in_ok-from_string.ensures ∙ c.in_ok-format.ensures.ok ∙ simp append_assoc
