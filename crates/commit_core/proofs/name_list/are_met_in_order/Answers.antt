use Rattle.commit_core.proofs.NamedLists.{met_more}
use Rattle.commit_core.proofs.name_list.are_met_in_order.Goals as goal

pub loop-ids-preserved : goal.loop-ids-preserved
loop-ids-preserved c = met_more c.args.terms.now c.args.triples.now c.loop-ids.ids-index c.loop-ids.met c.in-Some.later _ c.requires c.loop-ids-test.true c.in-Some.ensures c.loop-ids.invariant
