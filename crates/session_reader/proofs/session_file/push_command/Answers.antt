use Rattle.std.proofs.Common.{◌∙◌, ap, sym, refl}
use Rattle.session_reader.specs.Progress.{with_commands}
use Rattle.session_reader.proofs.Items.{with_commands-push}
use Rattle.session_reader.proofs.session_file.push_command.Goals as goal

pub returns-clause-item : goal.returns-clause-item
returns-clause-item c = λ more. (refl, with_commands-push c.args.commands.now c.args.command more ∙ sym (ap (λ cs. with_commands cs more) c.in_ok-push.ensures.ok))
