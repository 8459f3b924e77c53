use Rattle.turtle_lex.specs.Places.{IsPlace}
use Rattle.text_tests.proofs.tests.turtle_tokens.listing.Given as goal

abbrev pub invariant-loop-left : goal.invariant-loop-left
invariant-loop-left l = IsPlace l.characters l.place

abbrev pub decreases-loop-left : goal.decreases-loop-left
decreases-loop-left l = l.left
