use Rattle.std.proofs.Common.{◌≡◌, ◌++◌, map, reverse}
use Rattle.std.specs.List.{AllByRecursion}
use Rattle.event_history.specs.Kept.{HasTerms, meaning}
use Rattle.event_history.proofs.row.meanings_back.Given as goal

abbrev pub invariant-loop-at : goal.invariant-loop-at
invariant-loop-at l = record {
  so_far : l.read.items ++ reverse (map (meaning l.fn.names.terms) l.at) ≡ reverse (map (meaning l.fn.names.terms) l.fn.kept);
  terms : AllByRecursion (HasTerms l.fn.names.terms) l.at;
}
