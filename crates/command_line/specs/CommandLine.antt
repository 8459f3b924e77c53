-- The command line of the program, as `clap` has commands.
use Rattle.std.specs.Prelude.{Some, true, codes}
use Rattle.clap.specs.Words.{App, Rule, Text, new_app, new_rule, with_rule, with_subcommand}
use Rattle.clap.specs.Simple.{on_top}
use Rattle.clap.specs.Lexer.{usize_max}
use Rattle.clap.specs.declared.builder.action.ArgAction.TheVariants.{Set, Append}

-- `[--ID TEXT]`
abbrev pub option_rule : Text → Rule
option_rule id = record (new_rule id) { long = Some id; action = Some Set }

-- `ID`
abbrev pub name_rule : Text → Rule
name_rule id = record (new_rule id) { required = true; action = Some Set }

-- `ID..`, one or more
abbrev pub names_rule : Text → Rule
names_rule id = record (new_rule id) { required = true; action = Some Append; range = Some (record { start_inclusive = 1; end_inclusive = usize_max }) }

-- with the options of a store: `[--max-terms N] [--max-triples N] [--block all|violation]`
abbrev pub with_limits : App → App
with_limits app = with_rule (with_rule (with_rule app (option_rule (codes "max-terms"))) (option_rule (codes "max-triples"))) (option_rule (codes "block"))

-- `run [--max-terms N] [--max-triples N] [--block all|violation] [--log NAME] FILES..`
abbrev pub run : App
run = with_rule (with_rule (with_limits (new_app (codes "run"))) (option_rule (codes "log"))) (names_rule (codes "files"))

-- `replay [--max-terms N] [--max-triples N] [--block all|violation] HISTORY FILES..`
abbrev pub replay : App
replay = with_rule (with_rule (with_limits (new_app (codes "replay"))) (name_rule (codes "history"))) (names_rule (codes "files"))

-- `create-log NAME`
abbrev pub create_log : App
create_log = with_rule (new_app (codes "create-log")) (name_rule (codes "name"))

-- `follow LOG ORDER NUMBER`
abbrev pub follow : App
follow = with_rule (with_rule (with_rule (new_app (codes "follow")) (name_rule (codes "log"))) (name_rule (codes "order"))) (name_rule (codes "number"))

-- `validate DATA SHAPES`
abbrev pub validate : App
validate = with_rule (with_rule (new_app (codes "validate")) (name_rule (codes "data"))) (name_rule (codes "shapes"))

-- `explain DATA SHAPES`
abbrev pub explain : App
explain = with_rule (with_rule (new_app (codes "explain")) (name_rule (codes "data"))) (name_rule (codes "shapes"))

-- `verify DATA SHAPES EVIDENCE`
abbrev pub verify : App
verify = with_rule (with_rule (with_rule (new_app (codes "verify")) (name_rule (codes "data"))) (name_rule (codes "shapes"))) (name_rule (codes "evidence"))

-- `generate NUMBERS`
abbrev pub generate : App
generate = with_rule (new_app (codes "generate")) (name_rule (codes "numbers"))

-- with the commands that run session files
abbrev pub session_commands : App
session_commands = with_subcommand (with_subcommand (on_top (λ s. record s { subcommand_required = true }) (new_app (codes "shacl_guard"))) run.top) replay.top

-- and with those that make a log and follow one
abbrev pub store_commands : App
store_commands = with_subcommand (with_subcommand session_commands create_log.top) follow.top

-- and with those that take a data graph and a shapes graph
abbrev pub file_commands : App
file_commands = with_subcommand (with_subcommand (with_subcommand store_commands validate.top) explain.top) verify.top

abbrev pub command_line : App
command_line = with_subcommand file_commands generate.top
