use Rattle.std.proofs.Common.{◌≡◌, take}
use Rattle.std.specs.Prelude.{◌&&◌, filter}
use Rattle.overlay_view.specs.Overlays.{is_left}
use Rattle.overlay_view.proofs.pattern.left_triples.Given as goal

abbrev pub invariant-loop-triple : goal.invariant-loop-triple
invariant-loop-triple l = l.left.items ≡ filter (λ t. is_left l.removed t && is_left l.added t) (take l.triple-index l.triples)
