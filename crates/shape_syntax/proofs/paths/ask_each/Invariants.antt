use Rattle.std.proofs.Common.{take}
use Rattle.shape_syntax.specs.PathSteps.{WereAsked}
use Rattle.shape_syntax.proofs.paths.ask_each.Given as goal

abbrev pub invariant-loop-claim : goal.invariant-loop-claim
invariant-loop-claim l = WereAsked l.graph l.claim-index (take l.claim-index l.waiting) l.fn.known.paths.keys l.fn.known.lists.keys l.known.paths.keys l.known.lists.keys l.left
