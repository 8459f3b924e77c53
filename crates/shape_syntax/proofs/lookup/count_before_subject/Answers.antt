use Rattle.std.proofs.Common.{rules}
use Rattle.std.proofs.lemmas.List.Sorted.{IsPartitionPoint-from_clause}
use Rattle.std.specs.Ordering.{is_lt}
use Rattle.rdf_model.specs.declared.triple.Triple.{Triple}
use Rattle.rdf_model.specs.Terms.{triple_cmp}
use Rattle.shape_syntax.proofs.Places.{key, subject_cmp, subject_total, subject_agrees}
use Rattle.shape_syntax.proofs.Ranges.{lt_parts}
use Rattle.shape_syntax.proofs.lookup.count_before_subject.Goals as goal

pub returns-clause-point : goal.returns-clause-point
returns-clause-point c =
    let xs = c.args.triples.now in
    let k = key c.args.node.now c.args.node.now in
    IsPartitionPoint-from_clause (λ (t : Triple). is_lt (subject_cmp t k)) xs c.partition_point.result c.partition_point.ensures.partitioned (lt_parts triple_cmp subject_cmp subject_total subject_agrees k xs c.requires) (λ a r f' called. search rules)
