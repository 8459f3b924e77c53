use Rattle.rdf_model.specs.Numbers.{AreNumbered}
use Rattle.page_tests.proofs.tests.joins_by_terms.index_of.Given as goal

abbrev pub invariant-loop-edge : goal.invariant-loop-edge
invariant-loop-edge l = AreNumbered l.names.terms l.index
