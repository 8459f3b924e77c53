use Rattle.std.proofs.Common.{◌≡◌, ◌++◌, length}
use Rattle.std.specs.String.{string_bytes}
use Rattle.rdf_lexical.specs.Meanings.{lower_text}
use Rattle.rdf_lexical.proofs.meanings.lower_text.Given as goal

abbrev pub invariant-loop-character : goal.invariant-loop-character
invariant-loop-character l = string_bytes l.text ++ lower_text l.rest ≡ lower_text l.characters

abbrev pub decreases-loop-character : goal.decreases-loop-character
decreases-loop-character l = length l.rest
