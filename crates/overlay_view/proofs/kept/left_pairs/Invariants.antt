use Rattle.std.proofs.Common.{◌≡◌, take}
use Rattle.std.specs.Prelude.{filter}
use Rattle.overlay_view.specs.Overlays.{is_left, triple_of}
use Rattle.overlay_view.proofs.kept.left_pairs.Given as goal

abbrev pub invariant-loop-subject : goal.invariant-loop-subject
invariant-loop-subject l = l.left.items ≡ filter (λ e. is_left l.removed (triple_of e.0 l.predicate e.1)) (take l.subject-index l.pairs)
