use Rattle.std.proofs.Common.{arith}
use Rattle.generate_command.proofs.Files.{no_bad_line, short}
use Rattle.generate_command.proofs.reading.read_session.Goals as goal

pub prepare-requires-clause-room : goal.prepare-requires-clause-room
prepare-requires-clause-room g c = rw (c.deref.ensures.value, c.in_ok-text.ensures) (short c.args.n c.args.session (omega (arith, c.requires.n.0)) c.requires.n.1)

pub unreachable-requires : goal.unreachable-requires
unreachable-requires g c =
    no_bad_line c.args.n c.args.session c.in-Err-Line.field-0-0 (omega (arith, c.requires.n.0)) c.requires.n.1
    (rw (c.deref.ensures.value, c.in_ok-text.ensures, c.in-Err-Line.field-0-is) at c.in-Err-Line.ensures.answer.0)
