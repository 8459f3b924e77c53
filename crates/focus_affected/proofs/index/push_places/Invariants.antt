use Rattle.std.proofs.Common.{◌≡◌, ◌++◌, map, take}
use Rattle.focus_affected.specs.declared.index.IndexedRow.{IndexedRow}
use Rattle.focus_affected.proofs.index.push_places.Given as goal

abbrev pub invariant-loop-row : goal.invariant-loop-row
invariant-loop-row l = l.places.items ≡ l.fn.places.items ++ map (λ (r : IndexedRow). r.at) (take l.row-index l.rows)
