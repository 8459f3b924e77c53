use Rattle.std.proofs.Common.{◌≡◌, take}
use Rattle.std.specs.Prelude.{map}
use Rattle.triple_index.specs.Rotations.{by_order}
use Rattle.triple_index.proofs.at_once.keys_of.Given as goal

abbrev pub invariant-loop-triple : goal.invariant-loop-triple
invariant-loop-triple l = l.keys.items ≡ map (by_order l.order) (take l.triple-index l.triples)
