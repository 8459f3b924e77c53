use Rattle.std.proofs.Common.{take}
use Rattle.snapshot_store.specs.Asking.{LookAlike}
use Rattle.snapshot_store.proofs.looks.numbers_of.Given as goal

abbrev pub invariant-loop-look : goal.invariant-loop-look
invariant-loop-look l = LookAlike l.names.terms (take l.look-index l.looks) l.numbers
