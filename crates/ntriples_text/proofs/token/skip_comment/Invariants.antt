use Rattle.std.proofs.Common.{◌≡◌, ◌≤◌, length}
use Rattle.ntriples_text.specs.Tokens
use Rattle.ntriples_text.proofs.token.skip_comment.Given as goal

abbrev pub invariant-loop-character : goal.invariant-loop-character
invariant-loop-character l = record {
  rest : Tokens.from_line_end l.rest ≡ Tokens.from_line_end l.characters;
  shorter : length l.rest ≤ length l.characters;
}

abbrev pub decreases-loop-character : goal.decreases-loop-character
decreases-loop-character l = length l.rest
