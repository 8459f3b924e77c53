use Rattle.std.proofs.Common.{inl, inr}
use Rattle.shape_model.specs.Vocabulary.{rdf_type}
use Rattle.shape_syntax.proofs.Own.{own_has, match_map}
use Rattle.shape_syntax.proofs.instance.next_class.Goals as goal

pub returns-in-Some : goal.returns-in-Some
returns-in-Some c =
    let same = own_has c.args.graph.now c.args.own.now c.args.node.now c.requires.members in
    (inl ((same rdf_type c.in-Some.class.now).0 c.in-Some.ensures.0), c.in-Some.ensures.1)

pub returns-in-None : goal.returns-in-None
returns-in-None c =
    let same = own_has c.args.graph.now c.args.own.now c.args.node.now c.requires.members in
    match_map c.next_super.result _ _ _ _ (λ none class h. elim h [
      | inl k ↦ c.in-None.ensures class ((same rdf_type class).1 k)
      | inr k ↦ none class k
    ]) (λ class k. (inr k.0, k.1)) c.next_super.ensures
