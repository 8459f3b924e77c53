use Rattle.std.proofs.Common.{◌≡◌, ℕ, [], ◌<◌, length, map, get_or}
use Rattle.constraint_tests.proofs.checks.are_told.Given as goal

abbrev pub invariant-loop-place : goal.invariant-loop-place
invariant-loop-place l = (j : ℕ) → j < l.place → (length (get_or (map (λ a. a.items) l.answers) j []) ≡ length l.values)
    × ((k : ℕ) → k < length l.shapes → get_or l.shapes j 0 ≡ get_or l.shapes k 0
    → get_or (map (λ a. a.items) l.answers) j [] ≡ get_or (map (λ a. a.items) l.answers) k [])
