use Rattle.plain_terms.specs.Finds.{WithSome}
use Rattle.plain_terms.specs.Pairs.{Reaching}
use Rattle.plain_terms.specs.Relations.{JoinsOnceOrMore}
use Rattle.plain_terms.proofs.Chains.{chained_joins}
use Rattle.plain_terms.proofs.Made.{chained_slice, means_of}
use Rattle.plain_terms.proofs.joins.once_or_more.Goals as goal

pub returns : goal.returns
returns c =
    let r = c.args.relation.now in
    means_of (JoinsOnceOrMore r) (WithSome r.pairs (Reaching r.pairs)) c.in_ok-pairs.pairs.items c.deref.result.now r.is_reflexive c.in_ok-made.made c.deref.ensures.value (chained_slice r.pairs c.as_slice.result.now c.in_ok-pairs.pairs.items c.as_slice.ensures c.in_ok-pairs.ensures) c.in_ok-made.ensures.pairs c.in_ok-made.ensures.reflexive (chained_joins r)
