use Rattle.std.proofs.Common.{◌≡◌, ◌+◌, length}
use Rattle.turtle_lex.specs.Meanings
use Rattle.turtle_lex.proofs.meanings.before_colon.Given as goal

abbrev pub invariant-loop-character : goal.invariant-loop-character
invariant-loop-character l = record {
  value : l.count + Meanings.before_colon l.rest ≡ Meanings.before_colon l.characters;
  bound : l.count + length l.rest ≡ length l.characters;
}

abbrev pub decreases-loop-character : goal.decreases-loop-character
decreases-loop-character l = length l.rest
