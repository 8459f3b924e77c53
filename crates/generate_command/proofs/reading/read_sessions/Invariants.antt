use Rattle.std.proofs.Common.{◌≡◌, length}
use Rattle.session_reader.specs.Checking.{OnlyGrows}
use Rattle.generate_command.specs.Load.{AreSessions}
use Rattle.generate_command.proofs.reading.read_sessions.Given as goal

abbrev pub invariant-loop-before : goal.invariant-loop-before
invariant-loop-before g l = record {
  sessions : AreSessions l.n 1 l.all (g.M.Maker.refused l.fn.maker) (g.M.Maker.refused l.maker);
  count : length l.all ≡ l.before;
  refused : OnlyGrows (g.M.Maker.refused l.fn.maker) (g.M.Maker.refused l.maker);
}
