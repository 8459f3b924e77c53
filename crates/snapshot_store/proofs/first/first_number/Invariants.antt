use Rattle.std.proofs.Common.{take}
use Rattle.snapshot_store.specs.First.{IsFirst}
use Rattle.snapshot_store.proofs.first.first_number.Given as goal

abbrev pub invariant-loop-triple : goal.invariant-loop-triple
invariant-loop-triple l = IsFirst l.names.terms (take l.triple-index l.triples) l.first
