use Rattle.std.proofs.Common.{◌≡◌, map, take}
use Rattle.rdf_model.specs.declared.ids.Ids.{Ids}
use Rattle.focus_affected.proofs.changes.predicates_of.Given as goal

abbrev pub invariant-loop-triple : goal.invariant-loop-triple
invariant-loop-triple l = l.predicates.items ≡ map (λ (i : Ids). i.predicate) (take l.triple-index l.triples)
