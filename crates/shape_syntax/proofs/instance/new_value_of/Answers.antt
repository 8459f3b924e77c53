use Rattle.rdf_model.specs.declared.term.Term.TheVariants.{Iri}
use Rattle.shape_syntax.proofs.Own.{own_has, match_map}
use Rattle.shape_syntax.proofs.instance.new_value_of.Goals as goal

pub returns : goal.returns
returns c =
    let p = Iri c.args.predicate.now in
    let same = own_has c.args.graph.now c.triples_of-own.result.now c.args.node.now c.triples_of-own.ensures.members in
    match_map c.new_value.result _ _ _ _ (λ none class h. none class ((same p class).1 h)) (λ class k. ((same p class.now).0 k.0, k.1)) c.new_value.ensures
