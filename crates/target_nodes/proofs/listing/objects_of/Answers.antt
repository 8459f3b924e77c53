use Rattle.target_nodes.proofs.Pairs.{second_members}
use Rattle.target_nodes.proofs.listing.objects_of.Goals as goal

pub returns : goal.returns
returns g c = second_members (g.R.Triples.triples c.args.graph.now) c.args.predicate c.in_ok-pairs.pairs.items c.deref.result.now c.in_ok-pairs.ensures c.deref.ensures.value c.in_ok-seconds.field-0.items c.in_ok-seconds.ensures
