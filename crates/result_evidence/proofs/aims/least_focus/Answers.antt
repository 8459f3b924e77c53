use Rattle.rdf_model.specs.Numbers.{graph_of}
use Rattle.shape_model.specs.Validation.{At}
use Rattle.result_evidence.proofs.LeastAims.{all_nodes, next_least, none_yet}
use Rattle.result_evidence.proofs.aims.least_focus.Goals as goal

pub loop-node-init : goal.loop-node-init
loop-node-init g c =
    let e = c.args.evaluation.now in
    record { least = λ s own of at. none_yet e.terms (λ f. At (graph_of e.terms e.ids) s own.node f c.args.row.now) c.args.nodes.now; number = tt }

pub loop-node-preserved : goal.loop-node-preserved
loop-node-preserved g c =
    let e = c.args.evaluation.now in
    record {
      least = λ s own of at. next_least e.terms (λ f. At (graph_of e.terms e.ids) s own.node f c.args.row.now) c.args.nodes.now c.loop-node.node-index c.loop-node.least c.in_ok-least.least c.loop-node-test.true
          (c.loop-node.invariant.least s own of at) (c.in_ok-least.ensures.least s own of at);
      number = c.in_ok-least.ensures.number;
    }

pub returns : goal.returns
returns g c s own of at =
    let e = c.args.evaluation.now in
    all_nodes e.terms (λ f. At (graph_of e.terms e.ids) s own.node f c.args.row.now) c.args.nodes.now c.loop-node.node-index c.loop-node.least c.loop-node-test.false (c.loop-node.invariant.least s own of at)
