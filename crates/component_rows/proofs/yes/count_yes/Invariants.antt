use Rattle.std.proofs.Common.{◌≡◌, ◌≤◌, map, take}
use Rattle.component_rows.specs.Conformance.{yes_at}
use Rattle.component_rows.proofs.yes.count_yes.Given as goal

abbrev pub invariant-loop-list : goal.invariant-loop-list
invariant-loop-list l = (l.yes ≡ yes_at l.at (map (λ a. a.items) (take l.list-index l.answers))) × (l.yes ≤ l.list-index)
