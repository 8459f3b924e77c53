use Rattle.std.proofs.Common.{◌≡◌, ◌++◌, length}
use Rattle.std.specs.String.{string_bytes}
use Rattle.rdf_lexical.specs.Meanings.{unescaped}
use Rattle.rdf_lexical.proofs.meanings.each_unescaped.Given as goal

abbrev pub invariant-loop-character : goal.invariant-loop-character
invariant-loop-character l = string_bytes l.text ++ unescaped 0 l.rest ≡ unescaped 0 l.characters

abbrev pub decreases-loop-character : goal.decreases-loop-character
decreases-loop-character l = length l.rest
