use Rattle.std.proofs.Common.{◌≡◌, take}
use Rattle.std.specs.Prelude.{filter}
use Rattle.overlay_view.specs.Overlays.{is_left, triple_of}
use Rattle.overlay_view.proofs.kept.left_edges.Given as goal

abbrev pub invariant-loop-predicate : goal.invariant-loop-predicate
invariant-loop-predicate l = l.left.items ≡ filter (λ e. is_left l.removed (triple_of l.subject e.0 e.1)) (take l.predicate-index l.edges)
