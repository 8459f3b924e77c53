use Rattle.std.proofs.Common.{◌≡◌, take}
use Rattle.std.specs.List.{Contains}
use Rattle.rdf_model.specs.declared.triple.Triple.{Triple}
use Rattle.plain_terms.proofs.ways.says_all.Given as goal

abbrev pub invariant-loop-triple : goal.invariant-loop-triple
invariant-loop-triple l = (t : Triple) → Contains (take l.triple-index l.graph) t → t.subject ≡ l.first.subject → (t.predicate ≡ l.first.predicate) × (t.object ≡ l.first.object)
