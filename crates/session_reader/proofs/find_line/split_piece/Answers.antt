use Rattle.session_reader.proofs.Pieces.{piece_begins}
use Rattle.session_reader.proofs.find_line.split_piece.Goals as goal

pub loop-i-init : goal.loop-i-init
loop-i-init c = piece_begins c.args.line.now
