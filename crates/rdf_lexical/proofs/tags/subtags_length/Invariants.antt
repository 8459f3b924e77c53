use Rattle.std.proofs.Common.{◌≡◌, ◌+◌, length, false}
use Rattle.rdf_lexical.specs.Tags
use Rattle.rdf_lexical.proofs.tags.subtags_length.Given as goal

abbrev pub invariant-loop-character : goal.invariant-loop-character
invariant-loop-character l = record {
  value : l.count + Tags.subtags_length l.inside l.rest ≡ Tags.subtags_length false l.characters;
  bound : l.count + length l.rest ≡ length l.characters;
}

abbrev pub decreases-loop-character : goal.decreases-loop-character
decreases-loop-character l = length l.rest
