use Rattle.std.proofs.Common.{◌≡◌, ◌++◌, map}
use Rattle.std.specs.Option.{option_copied}
use Rattle.session_reader.specs.FindLine.{parts}
use Rattle.session_reader.proofs.Pieces.{parts_left, left_over}
use Rattle.session_reader.proofs.find_line.parts_of.Given as goal

abbrev pub invariant-loop-left : goal.invariant-loop-left
invariant-loop-left l = map (λ p. p.now) l.parts.items ++ parts_left (option_copied l.left) ≡ parts l.line

abbrev pub decreases-loop-left : goal.decreases-loop-left
decreases-loop-left l = left_over (option_copied l.left)
