use Rattle.std.proofs.Common.{take}
use Rattle.result_evidence.specs.AimedRows.{FindsAtSome}
use Rattle.result_evidence.specs.Standing.{ForShape}
use Rattle.result_evidence.proofs.gathering.aimed_at_nodes.Given as goal

abbrev pub invariant-loop-node : goal.invariant-loop-node
invariant-loop-node g l = ForShape l.evaluation.terms l.evaluation.shapes l.place
    (λ s shape. FindsAtSome l.evaluation.terms l.evaluation.ids s shape l.place (take l.node-index l.nodes) l.found.items)
