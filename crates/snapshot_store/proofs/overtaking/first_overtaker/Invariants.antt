use Rattle.std.proofs.Common.{◌≡◌, ◌+◌, drop, map}
use Rattle.std.specs.List.{AllByRecursion}
use Rattle.store_model.specs.Store.{overtaker_from}
use Rattle.snapshot_store.specs.Kept.{HasTerms, told}
use Rattle.snapshot_store.proofs.overtaking.first_overtaker.Given as goal

abbrev pub invariant-loop-kept : goal.invariant-loop-kept
invariant-loop-kept l = record {
  number : l.commit ≡ l.fn.first + l.kept-index;
  terms : AllByRecursion (HasTerms l.fn.finds.names) (drop l.kept-index l.commits);
  same : overtaker_from l.commit l.fn.finds.finds (map (told l.fn.finds.names) (drop l.kept-index l.commits)) ≡ overtaker_from l.fn.first l.fn.finds.finds (map (told l.fn.finds.names) l.commits);
}
