use Rattle.rdf_model.specs.Numbers.{AreNumbered}
use Rattle.random_tests.proofs.evaluated.added_last.Given as goal

-- each number of the triples so far has a term
abbrev pub invariant-loop-triple : goal.invariant-loop-triple
invariant-loop-triple l = record { before : AreNumbered l.names l.before; later : AreNumbered l.names l.later; changed : AreNumbered l.names l.changed }
