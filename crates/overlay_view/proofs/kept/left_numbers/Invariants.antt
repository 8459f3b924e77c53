use Rattle.std.proofs.Common.{◌≡◌, take}
use Rattle.std.specs.Prelude.{filter}
use Rattle.overlay_view.specs.Overlays.{is_left, triple_found}
use Rattle.overlay_view.proofs.kept.left_numbers.Given as goal

abbrev pub invariant-loop-number : goal.invariant-loop-number
invariant-loop-number l = l.left.items ≡ filter (λ n. is_left l.removed (triple_found l.look n)) (take l.number-index l.numbers)
