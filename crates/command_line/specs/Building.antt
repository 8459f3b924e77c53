-- What the commands and arguments in the making hold.
use Rattle.std.specs.Prelude.{◌≡◌, false, true, codes}
use Rattle.clap.specs.Words.{App, Rule, app_of, new_app, rule_of, with_rule}
use Rattle.clap.specs.Simple.{on_top}
use Rattle.clap.specs.declared.builder.arg.Arg.{Arg}
use Rattle.clap.specs.declared.builder.command.Command.{Command}
use Rattle.clap.specs.declared.builder.command.Command.TheViews.{out-Command}
use Rattle.command_line.specs.CommandLine.{name_rule}

-- an argument of this rule, which is none of subcommands too
pub record IsArgument (rule : Rule) (a : Arg) : Type 0 where
  pub follows : rule_of a ≡ rule
  pub local : a.global ≡ false

-- a command of this kind, whose arguments are none of subcommands too
pub record IsCommand (app : App) (c : Command) : Type 0 where
  pub holds : app_of c ≡ app
  pub local : (out-Command c).has_globals ≡ false

-- the program's own command, which takes one of others
abbrev pub program : App
program = on_top (λ s. record s { subcommand_required = true }) (new_app (codes "shacl_guard"))

-- with the names of a data graph and a shapes graph
abbrev pub with_graphs : App → App
with_graphs app = with_rule (with_rule app (name_rule (codes "data"))) (name_rule (codes "shapes"))
