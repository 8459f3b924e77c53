use Rattle.std.proofs.Common.{◌≡◌, ◌≤◌, length}
use Rattle.ntriples_text.specs.Tokens
use Rattle.ntriples_text.proofs.token.skip_blanks.Given as goal

abbrev pub invariant-loop-character : goal.invariant-loop-character
invariant-loop-character l = record {
  rest : Tokens.skipped l.rest ≡ Tokens.skipped l.characters;
  shorter : length l.rest ≤ length l.characters;
}

abbrev pub decreases-loop-character : goal.decreases-loop-character
decreases-loop-character l = length l.rest
