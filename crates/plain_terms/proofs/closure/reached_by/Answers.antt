use Rattle.plain_terms.proofs.Reaches.{reaching_from}
use Rattle.plain_terms.proofs.closure.reached_by.Goals as goal

pub returns : goal.returns
returns c = reaching_from c.args.pairs.now c.args.first.now c.in_ok-ends.ends c.as_slice.result.now c.in_ok-found.found.items c.as_slice.ensures c.in_ok-ends.ensures c.in_ok-found.ensures
