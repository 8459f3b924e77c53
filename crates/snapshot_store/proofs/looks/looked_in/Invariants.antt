use Rattle.std.proofs.Common.{◌≡◌, take}
use Rattle.std.specs.Prelude.{filter}
use Rattle.snapshot_store.specs.Asking.{is_looked_at}
use Rattle.snapshot_store.proofs.looks.looked_in.Given as goal

abbrev pub invariant-loop-triple : goal.invariant-loop-triple
invariant-loop-triple l = l.found.items ≡ filter (is_looked_at l.numbers) (take l.triple-index l.triples)
