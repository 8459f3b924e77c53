use Rattle.std.proofs.Common.{◌≡◌, true, not}
use Rattle.std.specs.List.{AllWithin}
use Rattle.std.specs.Ordering.{is_gt}
use Rattle.rdf_model.specs.declared.triple.Triple.{Triple}
use Rattle.shape_syntax.proofs.Places.{key, subject_cmp}
use Rattle.shape_syntax.proofs.lookup.count_upto_subject.Given as goal

abbrev pub invariant-loop-count : goal.invariant-loop-count
invariant-loop-count l = AllWithin (λ (t : Triple). not (is_gt (subject_cmp t (key l.node l.node))) ≡ true) l.triples 0 l.count
