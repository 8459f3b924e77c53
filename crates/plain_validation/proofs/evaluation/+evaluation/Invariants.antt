use Rattle.std.proofs.Common.{◌+◌, ◌*◌, take}
use Rattle.plain_terms.specs.Finds.{Finds, WithSome}
use Rattle.plain_validation.specs.References.{ToldAt}
use Rattle.plain_validation.proofs.evaluation.+evaluation.Given as goal

abbrev pub decreases-rows_at : goal.decreases-rows_at
decreases-rows_at l = 3 * l.levels

abbrev pub decreases-told_by : goal.decreases-told_by
decreases-told_by l = 3 * l.levels + 1

abbrev pub decreases-told_by_each : goal.decreases-told_by_each
decreases-told_by_each l = 3 * l.levels + 2

abbrev pub invariant-told_by-loop-node : goal.invariant-told_by-loop-node
invariant-told_by-loop-node l = Finds (WithSome (take l.node-index l.nodes) (ToldAt l.levels l.graph l.shapes l.shape)) l.told.items

abbrev pub invariant-told_by_each-loop-shape : goal.invariant-told_by_each-loop-shape
invariant-told_by_each-loop-shape l = Finds (WithSome (take l.shape-index l.referred) (λ m. WithSome l.nodes (ToldAt l.levels l.graph l.shapes m))) l.told.items
