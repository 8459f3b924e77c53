use Rattle.std.proofs.Common.{◌≡◌, ℕ, take}
use Rattle.reference_totals.specs.Totals.{SumBy, capped}
use Rattle.shape_model.specs.Limits.{looks_limit}
use Rattle.shape_sizes.specs.Sizes.{HasPathLooks}
use Rattle.shape_sizes.proofs.looks.looks_of_paths.Given as goal

abbrev pub invariant-loop-value : goal.invariant-loop-value
invariant-loop-value l = (k : ℕ) × SumBy (HasPathLooks l.graph) (take l.value-index l.value-items) k × (l.sum ≡ capped looks_limit k)
