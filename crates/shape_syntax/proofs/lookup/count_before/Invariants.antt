use Rattle.std.specs.List.{AllWithin}
use Rattle.rdf_model.specs.declared.term.Term.TheVariants.{Iri}
use Rattle.rdf_model.specs.declared.triple.Triple.{Triple}
use Rattle.shape_syntax.specs.Scans.{IsAt}
use Rattle.shape_syntax.proofs.lookup.count_before.Given as goal

abbrev pub invariant-loop-count : goal.invariant-loop-count
invariant-loop-count l = AllWithin (λ (t : Triple). IsAt l.node (Iri l.predicate) t → ⊥) l.triples 0 l.count
