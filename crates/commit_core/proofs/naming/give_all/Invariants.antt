use Rattle.std.proofs.Common.{◌≡◌, drop}
use Rattle.store_model.specs.Nodes.{given_with}
use Rattle.commit_core.proofs.naming.give_all.Given as goal

abbrev pub invariant-loop-term : goal.invariant-loop-term
invariant-loop-term l = given_with l.given (drop l.term-index l.terms) ≡ given_with l.fn.given l.terms
