use Rattle.rdf_model.specs.Numbers.{AreNumbered}
use Rattle.evidence_tests.proofs.blocks.ids_of.Given as goal

abbrev pub invariant-loop-triple : goal.invariant-loop-triple
invariant-loop-triple l = AreNumbered l.names l.ids
