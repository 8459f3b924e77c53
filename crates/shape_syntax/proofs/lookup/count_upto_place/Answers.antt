use Rattle.std.proofs.Common.{◌≡◌, ◌∙◌, true, false, not, sym, ap, rules}
use Rattle.std.proofs.lemmas.List.Sorted.{IsPartitionPoint-from_clause}
use Rattle.std.specs.Ordering.{is_gt}
use Rattle.rdf_model.specs.declared.term.Term.TheVariants.{Iri}
use Rattle.rdf_model.specs.declared.triple.Triple.{Triple}
use Rattle.rdf_model.specs.Terms.{triple_cmp}
use Rattle.shape_syntax.proofs.Places.{key, place_cmp, place_total, place_agrees}
use Rattle.shape_syntax.proofs.Ranges.{le_parts, upto_here, within_none, within_more, within_all}
use Rattle.shape_syntax.proofs.lookup.count_upto_place.Goals as goal

pub returns-then-count-eq-NEAR-clause-point : goal.returns-then-count-eq-NEAR-clause-point
returns-then-count-eq-NEAR-clause-point c =
    let xs = c.args.triples.now in
    let k = key c.args.node.now (Iri c.args.predicate.now) in
    IsPartitionPoint-from_clause (λ (t : Triple). not (is_gt (place_cmp t k))) xs c.partition_point.result c.partition_point.ensures.partitioned (le_parts triple_cmp place_cmp place_total place_agrees k xs c.requires) (λ a r f' called. search rules)

pub returns-then-is_gt-clause-point : goal.returns-then-is_gt-clause-point
returns-then-is_gt-clause-point c =
    let k = key c.args.node.now (Iri c.args.predicate.now) in
    upto_here triple_cmp place_cmp place_total place_agrees k c.args.triples.now c.loop-count.count c.index-triples-count.result c.requires c.index-triples-count.is
    (ap is_gt (sym c.compare_place.ensures) ∙ sym c.is_gt.ensures ∙ c.if-is_gt.true) c.loop-count.invariant

pub loop-count-init : goal.loop-count-init
loop-count-init c = within_none (λ (t : Triple). not (is_gt (place_cmp t (key c.args.node.now (Iri c.args.predicate.now)))) ≡ true) c.args.triples.now

pub loop-count-preserved : goal.loop-count-preserved
loop-count-preserved c =
    let k = key c.args.node.now (Iri c.args.predicate.now) in
    within_more (λ (t : Triple). not (is_gt (place_cmp t k)) ≡ true) c.args.triples.now c.loop-count.count c.index-triples-count.result c.loop-count-test.true c.index-triples-count.is
    (ap not (ap is_gt (sym c.compare_place.ensures) ∙ sym c.is_gt.ensures ∙ c.if-is_gt.false)) c.loop-count.invariant

pub returns-clause-point : goal.returns-clause-point
returns-clause-point c =
    let k = key c.args.node.now (Iri c.args.predicate.now) in
    within_all (λ (t : Triple). not (is_gt (place_cmp t k)) ≡ true) (λ (t : Triple). not (is_gt (place_cmp t k)) ≡ false) c.args.triples.now c.loop-count.count c.loop-count-test.false c.loop-count.auto.count-end c.loop-count.invariant
