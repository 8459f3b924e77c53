use Rattle.plain_terms.proofs.Lists.{end_found}
use Rattle.plain_terms.proofs.list.is_list_end.Goals as goal

pub returns : goal.returns
returns c =
    end_found c.args.graph.now c.args.node.now c.in_ok-nil.nil c.in_ok-first.first c.in_ok-rest.rest c.in_ok-nil.ensures c.in_ok-first.ensures c.in_ok-rest.ensures c.is_same-is_nil.result c.in_ok-no_first.no_first c.in_ok-no_rest.no_rest c.are_all.result c.are_all.ensures
    c.is_same-is_nil.ensures c.in_ok-no_first.ensures c.in_ok-no_rest.ensures
