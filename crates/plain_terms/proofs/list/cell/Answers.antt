use Rattle.plain_terms.proofs.Lists.{cell_found}
use Rattle.plain_terms.proofs.list.cell.Goals as goal

pub returns : goal.returns
returns c =
    cell_found c.args.graph.now c.args.node.now c.in_ok-first.first c.in_ok-rest.rest c.in_ok-first.ensures c.in_ok-rest.ensures c.in_ok-member.member c.in_ok-next.next c.pair_of.result c.pair_of.ensures
    c.in_ok-member.ensures c.in_ok-next.ensures
