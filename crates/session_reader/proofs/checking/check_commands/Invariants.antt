use Rattle.std.proofs.Common.{◌≡◌, ◌++◌}
use Rattle.session_reader.specs.Asked.{AsksOfEach}
use Rattle.session_reader.specs.Checking.{AreChecked}
use Rattle.session_reader.proofs.checking.check_commands.Given as goal

abbrev pub invariant-loop-command : goal.invariant-loop-command
invariant-loop-command g l = record {
  checked : AreChecked l.yielded l.commands (g.M.Maker.refused l.fn.maker) (g.M.Maker.refused l.maker);
  asked : AsksOfEach l.yielded l.commands (g.M.Maker.asked l.fn.maker) (g.M.Maker.asked l.maker);
  left : l.yielded ++ l.command-iterator.rest.items ≡ l.fn.read;
}
