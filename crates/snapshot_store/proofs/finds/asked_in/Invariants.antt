use Rattle.std.proofs.Common.{◌≡◌, take}
use Rattle.std.specs.Prelude.{filter}
use Rattle.snapshot_store.specs.Asking.{is_asked}
use Rattle.snapshot_store.proofs.finds.asked_in.Given as goal

abbrev pub invariant-loop-triple : goal.invariant-loop-triple
invariant-loop-triple l = l.found.items ≡ filter (is_asked l.asked) (take l.triple-index l.triples)
