use Rattle.plain_terms.specs.Finds.{WithSome}
use Rattle.plain_terms.specs.Pairs.{Reversed}
use Rattle.plain_terms.specs.Relations.{Joins}
use Rattle.plain_terms.proofs.Made.{means_of, reversed_joins, reversed_slice}
use Rattle.plain_terms.proofs.joins.reversed_relation.Goals as goal

pub returns : goal.returns
returns c =
    let r = c.args.relation.now in
    means_of (λ x y. Joins r y x) (WithSome r.pairs Reversed) c.in_ok-pairs.pairs.items c.deref.result.now r.is_reflexive c.in_ok-made.made c.deref.ensures.value (reversed_slice r.pairs c.as_slice.result.now c.in_ok-pairs.pairs.items c.as_slice.ensures c.in_ok-pairs.ensures) c.in_ok-made.ensures.pairs c.in_ok-made.ensures.reflexive (reversed_joins r)
