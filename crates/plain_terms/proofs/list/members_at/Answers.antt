use Rattle.plain_terms.proofs.Lists.{listed_none, listed_some}
use Rattle.plain_terms.proofs.list.members_at.Goals as goal

pub returns-in-Some : goal.returns-in-Some
returns-in-Some c = listed_some c.args.graph.now c.args.head.now c.in_ok-found.found c.in-Some.members c.into_vec.result.items c.in-Some.is c.in_ok-found.ensures c.into_vec.ensures

pub returns-in-None : goal.returns-in-None
returns-in-None c = listed_none c.args.graph.now c.args.head.now c.in_ok-found.found c.new.result.items c.in-None.is c.in_ok-found.ensures c.new.ensures.items
