use Rattle.std.proofs.Common.{◌≡◌, ◌≤◌, length}
use Rattle.rdf_lexical.specs.Escapes.{hex_number_from}
use Rattle.rdf_lexical.proofs.escapes.numbered_char.Given as goal

abbrev pub invariant-loop-digit : goal.invariant-loop-digit
invariant-loop-digit l = record {
  small : l.number ≤ 0x10FFFF;
  number : hex_number_from l.number l.left ≡ hex_number_from 0 l.digits;
}

abbrev pub decreases-loop-digit : goal.decreases-loop-digit
decreases-loop-digit l = length l.left
