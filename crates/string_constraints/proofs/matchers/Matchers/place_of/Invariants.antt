use Rattle.std.proofs.Common.{◌≡◌, take}
use Rattle.std.specs.List.{All}
use Rattle.string_constraints.specs.Matches.{searched}
use Rattle.string_constraints.proofs.matchers.Matchers.place_of.Given as goal

abbrev pub invariant-loop-place : goal.invariant-loop-place
invariant-loop-place l = All (λ kept. kept ≡ searched l.fn.regex l.fn.flags → ⊥) (take l.place l.self.kept.items)
