use Rattle.std.proofs.Common.{rules}
use Rattle.std.proofs.lemmas.List.Sorted.{IsPartitionPoint-from_clause}
use Rattle.std.specs.Ordering.{is_lt}
use Rattle.rdf_model.specs.declared.term.Term.TheVariants.{Iri}
use Rattle.rdf_model.specs.declared.triple.Triple.{Triple}
use Rattle.rdf_model.specs.Terms.{triple_cmp}
use Rattle.shape_syntax.proofs.Places.{key, place_cmp, place_total, place_agrees, at_place, place_tied}
use Rattle.shape_syntax.proofs.Ranges.{lt_parts, in_behind, behind_ascending}
use Rattle.shape_syntax.proofs.lookup.searched.Goals as goal

pub count_upto_place-requires : goal.count_upto_place-requires
count_upto_place-requires c = behind_ascending triple_cmp place_cmp place_total place_agrees c.partition_point-first.result c.args.graph.now c.requires

pub returns : goal.returns
returns c = λ t.
    let xs = c.args.graph.now in
    let k = key c.args.node.now (Iri c.args.predicate.now) in
    let h = in_behind triple_cmp place_cmp place_total place_agrees k xs c.partition_point-first.result c.count_upto_place.result c.partition_point-first.ensures.bound c.count_upto_place.ensures.bound
    (IsPartitionPoint-from_clause (λ (t : Triple). is_lt (place_cmp t k)) xs c.partition_point-first.result c.partition_point-first.ensures.partitioned (lt_parts triple_cmp place_cmp place_total place_agrees k xs c.requires) (λ a r f' called. search rules))
    c.count_upto_place.ensures.point t in (
      λ d. let g = h.0 d in (g.0, at_place t c.args.node.now (Iri c.args.predicate.now) g.1),
      λ g. h.1 (g.0, place_tied t c.args.node.now (Iri c.args.predicate.now) g.1.0 g.1.1),
    )
