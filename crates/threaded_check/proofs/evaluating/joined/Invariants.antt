use Rattle.std.proofs.Common.{◌≡◌, ◌++◌}
use Rattle.std.specs.List.{flat_map}
use Rattle.std.specs.Vec.Iter.{into_iter_items}
use Rattle.threaded_check.proofs.evaluating.joined.Given as goal

abbrev pub invariant-loop-part : goal.invariant-loop-part
invariant-loop-part l = record {
  rest : l.yielded ++ into_iter_items l.part-iterator ≡ l.fn.parts.items;
  pairs : l.checked.items ≡ flat_map (λ part. part.pairs.items) l.yielded;
  looks : l.footprint ≡ l.fn.footprint ++ flat_map (λ part. part.looks) l.yielded;
}
