use Rattle.std.proofs.Common.{◌∙◌}
use Rattle.std.specs.Prelude.{◌&&◌}
use Rattle.rdf_model.specs.declared.term.Term.{Term}
use Rattle.plain_terms.specs.Relations.{Follows, Joins}
use Rattle.plain_terms.proofs.Made.{followed_joins, means_of}
use Rattle.plain_terms.proofs.joins.followed_by.Goals as goal

pub returns : goal.returns
returns c =
    let r = c.args.first.now in
    let s = c.args.second.now in
    means_of (λ x y. (z : Term) × Joins r x z × Joins s z y) (Follows r s) c.in_ok-pairs.pairs.items c.deref.result.now (r.is_reflexive && s.is_reflexive) c.in_ok-made.made c.deref.ensures.value c.in_ok-pairs.ensures c.in_ok-made.ensures.pairs (c.in_ok-made.ensures.reflexive ∙ c.are_both-is_reflexive.ensures) (followed_joins r s)
