use Rattle.std.proofs.Common.{◌≡◌}
use Rattle.session_reader.specs.declared.find_line.LinePlace.TheVariants.{Outside}
use Rattle.session_reader.specs.FindLine.{pieces}
use Rattle.session_reader.proofs.Pieces.{pieces_at}
use Rattle.session_reader.proofs.find_line.split_piece.Given as goal

abbrev pub invariant-loop-i : goal.invariant-loop-i
invariant-loop-i l = pieces Outside l.line ≡ pieces_at l.line l.place l.i
