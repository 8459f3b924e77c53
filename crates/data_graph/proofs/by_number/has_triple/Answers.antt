use Rattle.std.proofs.Common.{sym}
use Rattle.data_graph.specs.DataGraphs.{triples_at}
use Rattle.data_graph.proofs.Listed.{none_unnamed, stands_there, test_is}
use Rattle.data_graph.proofs.by_number.has_triple.Goals as goal

pub returns-in-Some : goal.returns-in-Some
returns-in-Some c =
    let terms = c.args.names.now.terms in
    let there = stands_there terms c.recall_numbering.ensures c.args.index.now c.in-Some.ids c.args.triple.now c.requires c.in-Some.ensures.0 c.in-Some.ensures.1 in
    test_is c.contains.result (triples_at terms c.args.index.now) c.args.triple.now (λ e. there.0 (c.contains.ensures.0 e), λ d. c.contains.ensures.1 (there.1 d))

pub returns-in-None : goal.returns-in-None
returns-in-None c = sym (none_unnamed c.args.names.now.terms c.args.index.now c.args.triple.now c.requires c.in-None.ensures)
