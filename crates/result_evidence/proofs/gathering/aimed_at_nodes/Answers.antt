use Rattle.std.proofs.Common.{List, [], sym, subst}
use Rattle.result_evidence.specs.declared.aimed_row.AimedRow.{AimedRow}
use Rattle.result_evidence.specs.AimedRows.{FindsAtSome}
use Rattle.result_evidence.proofs.Aimed.{every_node, more_node, no_nodes}
use Rattle.result_evidence.proofs.gathering.aimed_at_nodes.Goals as goal

pub loop-node-init : goal.loop-node-init
loop-node-init g c s own of at =
    let e = c.args.evaluation.now in
    subst (λ (found : List AimedRow). FindsAtSome e.terms e.ids s own.node c.args.place [] found) (sym c.new-found.ensures.items) (no_nodes e.terms e.ids s own.node c.args.place)

pub loop-node-preserved : goal.loop-node-preserved
loop-node-preserved g c s own of at =
    let e = c.args.evaluation.now in
    more_node e.terms e.ids s own.node c.args.place c.args.nodes.now c.loop-node.node-index c.loop-node.found.items c.in_ok-more.more.items c.append.new.self.items c.loop-node-test.true c.in_ok-append.ensures.items
    (c.loop-node.invariant s own of at) (c.in_ok-more.ensures s own of at)

pub returns : goal.returns
returns g c s own of at =
    let e = c.args.evaluation.now in
    every_node e.terms e.ids s own.node c.args.place c.args.nodes.now c.loop-node.node-index c.loop-node.found.items c.loop-node-test.false (c.loop-node.invariant s own of at)
