use Rattle.std.proofs.Common.{◌≡◌, ◌++◌, length}
use Rattle.std.specs.String.{string_bytes}
use Rattle.turtle_lex.specs.Meanings.{local_text}
use Rattle.turtle_lex.proofs.meanings.push_each.Given as goal

abbrev pub invariant-loop-character : goal.invariant-loop-character
invariant-loop-character l = string_bytes l.text ++ local_text l.rest ≡ string_bytes l.initial.text ++ local_text l.characters

abbrev pub decreases-loop-character : goal.decreases-loop-character
decreases-loop-character l = length l.rest
