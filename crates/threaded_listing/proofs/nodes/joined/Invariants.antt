use Rattle.std.proofs.Common.{◌≡◌, ◌++◌}
use Rattle.std.specs.List.{flat_map}
use Rattle.std.specs.Vec.Iter.{into_iter_items}
use Rattle.threaded_listing.proofs.nodes.joined.Given as goal

abbrev pub invariant-loop-list : goal.invariant-loop-list
invariant-loop-list l = record {
  rest : l.yielded ++ into_iter_items l.list-iterator ≡ l.fn.lists.items;
  found : l.found.items ≡ flat_map (λ list. list.items) l.yielded;
}
