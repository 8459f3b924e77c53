use Rattle.std.proofs.Common.{◌≡◌, ◌++◌}
use Rattle.std.specs.List.{Contains}
use Rattle.std.specs.Vec.Iter.{into_iter_items}
use Rattle.component_rows.specs.Listed.{Collects}
use Rattle.component_rows.proofs.Collecting.{FromSome}
use Rattle.logic_constraints.proofs.properties.property.Given as goal

abbrev pub invariant-loop-list : goal.invariant-loop-list
invariant-loop-list l = record {
  rest : l.yielded ++ into_iter_items l.list-iterator ≡ l.fn.rows.items;
  rows : Collects (FromSome l.yielded (λ list r. Contains list.items r)) l.all.items;
}
