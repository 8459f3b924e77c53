use Rattle.std.proofs.Common.{◌∙◌, ap, not, sym}
use Rattle.collections.specs.Ordered.{has_item}
use Rattle.rdf_model.specs.declared.triple.Triple.{Triple}
use Rattle.rdf_model.specs.Terms.{triple_cmp}
use Rattle.commit_core.proofs.RecordedTriples.{all_passed, fails_here, one_numbered, passes_on}
use Rattle.commit_core.proofs.restoring.has_none.Goals as goal

pub contains_numbers-requires : goal.contains_numbers-requires
contains_numbers-requires c = one_numbered c.args.graph.now.terms c.args.triples.now c.loop-ids.ids-index _ c.requires c.loop-ids-test.true

pub returns-then-contains_numbers : goal.returns-then-contains_numbers
returns-then-contains_numbers c =
    sym (fails_here (λ (t : Triple). not (has_item triple_cmp t c.args.graph.now.triples)) c.args.graph.now.terms c.args.triples.now c.loop-ids.ids-index _ c.loop-ids-test.true (ap not (sym c.contains_numbers.ensures ∙ c.if-contains_numbers.true))) ∙ c.loop-ids.invariant

pub loop-ids-preserved : goal.loop-ids-preserved
loop-ids-preserved c =
    sym (passes_on (λ (t : Triple). not (has_item triple_cmp t c.args.graph.now.triples)) c.args.graph.now.terms c.args.triples.now c.loop-ids.ids-index _ c.loop-ids-test.true (ap not (sym c.contains_numbers.ensures ∙ c.if-contains_numbers.false))) ∙ c.loop-ids.invariant

pub returns : goal.returns
returns c = sym (all_passed (λ (t : Triple). not (has_item triple_cmp t c.args.graph.now.triples)) c.args.graph.now.terms c.args.triples.now c.loop-ids.ids-index c.loop-ids-test.false) ∙ c.loop-ids.invariant
