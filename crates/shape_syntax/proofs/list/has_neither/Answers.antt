use Rattle.shape_model.specs.Vocabulary.{rdf_first, rdf_rest}
use Rattle.shape_syntax.proofs.Own.{own_none}
use Rattle.shape_syntax.proofs.list.has_neither.Goals as goal

pub returns-then-has_no_first : goal.returns-then-has_no_first
returns-then-has_no_first c =
    let same = own_none c.args.graph.now c.triples_of-own.result.now c.args.node.now c.triples_of-own.ensures.members in (
      λ h. ((same rdf_first).0 (c.has_no_first.ensures.0 c.if-has_no_first.true), (same rdf_rest).0 (c.has_no_rest.ensures.0 h)),
      λ h. c.has_no_rest.ensures.1 ((same rdf_rest).1 h.1),
    )

pub returns-else-has_no_first : goal.returns-else-has_no_first
returns-else-has_no_first c =
    let same = own_none c.args.graph.now c.triples_of-own.result.now c.args.node.now c.triples_of-own.ensures.members in (
      λ h. cc,
      λ h. let k = c.has_no_first.ensures.1 ((same rdf_first).1 h.0) in cc,
    )
