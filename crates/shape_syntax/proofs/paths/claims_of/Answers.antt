use Rattle.std.proofs.Common.{arith, inl, inr}
use Rattle.shape_syntax.specs.PathSteps.{node_of}
use Rattle.shape_syntax.proofs.Scans.{cases_more, in_all}
use Rattle.shape_syntax.proofs.paths.claims_of.Goals as goal

pub loop-node-preserved : goal.loop-node-preserved
loop-node-preserved c = λ d there may. elim (cases_more c.args.nodes.now c.loop-node.node-index c.node-item.result (omega arith) c.node-item.is (node_of d) there) [
  | inl old ↦ c.in_ok-push_claims.ensures.kept d (c.loop-node.invariant d old may)
  | inr e ↦ c.in_ok-push_claims.ensures.new d e may
]

pub returns : goal.returns
returns c = λ d there may. c.loop-node.invariant d (in_all c.args.nodes.now c.loop-node.node-index (omega arith) (node_of d) there) may
