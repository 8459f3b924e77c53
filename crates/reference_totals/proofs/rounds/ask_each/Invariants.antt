use Rattle.std.proofs.Common.{take}
use Rattle.reference_totals.specs.Rounds.{WereAsked}
use Rattle.reference_totals.proofs.rounds.ask_each.Given as goal

abbrev pub invariant-loop-index : goal.invariant-loop-index
invariant-loop-index l = WereAsked l.places l.most l.index-index (take l.index-index l.waiting) l.fn.known l.known l.left
