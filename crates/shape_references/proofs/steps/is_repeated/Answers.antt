use Rattle.std.proofs.Common.{◌-◌, arith}
use Rattle.shape_references.proofs.NumberedNodes.{repeated}
use Rattle.shape_references.proofs.steps.is_repeated.Goals as goal

pub returns : goal.returns
returns c = λ h t got. repeated c.args.graph.now c.args.index (c.args.index - 1) t _ _ (omega arith) (omega arith) got (c.is_same.ensures.0 h)
