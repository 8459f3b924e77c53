use Rattle.std.proofs.Common.{◌≡◌, ◌+◌, drop, map}
use Rattle.std.specs.List.{AllByRecursion}
use Rattle.store_model.specs.Store.{again_from}
use Rattle.snapshot_store.specs.Kept.{HasTerms, told}
use Rattle.snapshot_store.proofs.reasons.first_reason.Given as goal

abbrev pub invariant-loop-kept : goal.invariant-loop-kept
invariant-loop-kept l = record {
  number : l.commit ≡ l.fn.first + l.kept-index;
  terms : AllByRecursion (HasTerms l.fn.looks.names) (drop l.kept-index l.commits);
  same : again_from l.commit l.fn.looks.looks (map (told l.fn.looks.names) (drop l.kept-index l.commits)) ≡ again_from l.fn.first l.fn.looks.looks (map (told l.fn.looks.names) l.commits);
}
