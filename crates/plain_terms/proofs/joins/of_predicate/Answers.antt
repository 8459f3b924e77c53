use Rattle.std.proofs.Common.{false}
use Rattle.shape_model.specs.Triples.{Has}
use Rattle.plain_terms.specs.Finds.{WithSome}
use Rattle.plain_terms.specs.Pairs.{FromTriple}
use Rattle.plain_terms.proofs.Made.{by_predicate, means_of}
use Rattle.plain_terms.proofs.joins.of_predicate.Goals as goal

pub returns : goal.returns
returns c =
    let g = c.args.graph.now in
    let p = c.args.predicate.now in
    means_of (λ x y. Has g x p y) (WithSome g (FromTriple p)) c.in_ok-pairs.pairs.items c.deref.result.now false c.in_ok-made.made c.deref.ensures.value c.in_ok-pairs.ensures c.in_ok-made.ensures.pairs c.in_ok-made.ensures.reflexive (by_predicate g p)
