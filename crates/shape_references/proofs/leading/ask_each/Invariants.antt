use Rattle.std.proofs.Common.{take}
use Rattle.shape_references.specs.Asking.{WereAsked}
use Rattle.shape_references.proofs.leading.ask_each.Given as goal

abbrev pub invariant-loop-node : goal.invariant-loop-node
invariant-loop-node l = WereAsked l.graph l.goal l.node-index (take l.node-index l.waiting) l.fn.known.keys l.known.keys l.left
