use Rattle.std.proofs.Common.{◌≡◌, take}
use Rattle.plain_terms.specs.Finds.{Finds, WithSome}
use Rattle.plain_terms.proofs.choice.chosen.Given as goal

abbrev pub invariant-loop-term : goal.invariant-loop-term
invariant-loop-term g l = Finds (WithSome (take l.term-index l.terms) (λ x y. g.T.TermTest.accepts l.test x × (y ≡ x))) l.found
