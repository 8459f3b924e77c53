use Rattle.kept_validation.proofs.Keeping.{at_nodes}
use Rattle.kept_validation.proofs.whole.rows_at.Goals as goal

pub returns-clause-rows : goal.returns-clause-rows
returns-clause-rows g c =
    let e = c.args.evaluation.now in
    at_nodes e.terms e.ids e.shapes c.args.shape c.args.node c.args.nodes.now c.in_ok-found.found.items c.in_ok-with_pairs.field-0.items c.recall.ensures.bound c.requires.shape c.requires.node c.requires.nodes
    c.in_ok-with_pairs.ensures c.in_ok-found.ensures.rows
