use Rattle.std.proofs.Common.{◌≡◌}
use Rattle.std.specs.Prelude.{IfOk, Ok, Err}
use Rattle.std.specs.declared.result.Result.{Result}
use Rattle.std.specs.declared.alloc.AllocError.{AllocError}
use Rattle.clap.specs.Words.{App, app_of}
use Rattle.clap.specs.declared.builder.command.Command.{Command}
use Rattle.command_line.specs.Building.{IsCommand}
use Rattle.command_line.proofs.commands.command_line.Goals as goal

held : (app : App) (made : Result Command AllocError) → IfOk made (IsCommand app) → IfOk made (λ c. app_of c ≡ app)
held app (Ok command) h = h.holds
held app (Err fault) h = tt

pub returns : goal.returns
returns c = held _ c.with_command.result (c.with_command.ensures _ _ c.file_commands.ensures c.generate.ensures)
