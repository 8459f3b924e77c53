use Rattle.std.proofs.Common.{◌≡◌, take}
use Rattle.std.specs.Prelude.{filter, map}
use Rattle.triple_index.specs.Rotations.{from_order}
use Rattle.triple_index.specs.Patterns.{matches_ids}
use Rattle.triple_index.proofs.pattern.all_asked.Given as goal

abbrev pub invariant-loop-key : goal.invariant-loop-key
invariant-loop-key l = l.found.items ≡ filter (matches_ids l.asked.subject l.asked.predicate l.asked.object) (map (from_order l.order) (take l.key-index l.keys))
