use Rattle.std.proofs.Common.{take}
use Rattle.snapshot_store.specs.Asking.{AskAlike}
use Rattle.snapshot_store.proofs.finds.numbered_finds.Given as goal

abbrev pub invariant-loop-pattern : goal.invariant-loop-pattern
invariant-loop-pattern l = AskAlike l.names.terms (take l.pattern-index l.patterns) l.asked.items
