use Rattle.std.proofs.Common.{◌≡◌, ◌-◌, ◌≤◌, drop}
use Rattle.triple_table.specs.Keys.{greatest, packed}
use Rattle.triple_table.proofs.KeyOrder.{roof}
use Rattle.triple_table.proofs.keys.packed_bytes.Given as goal

abbrev pub invariant-loop-place : goal.invariant-loop-place
invariant-loop-place l = (packed (8 - l.place) l.key (drop l.place l.bytes) ≡ packed 8 0 l.bytes) × (roof (8 - l.place) l.key ≤ greatest)
