use Rattle.std.proofs.Common.{◌≡◌, ◌+◌, length, false}
use Rattle.turtle_lex.specs.Blanks
use Rattle.turtle_lex.proofs.blanks.blank_length.Given as goal

abbrev pub invariant-loop-character : goal.invariant-loop-character
invariant-loop-character l = record {
  value : l.count + Blanks.blank_length l.in_comment l.rest ≡ Blanks.blank_length false l.characters;
  bound : l.count + length l.rest ≡ length l.characters;
}

abbrev pub decreases-loop-character : goal.decreases-loop-character
decreases-loop-character l = length l.rest
