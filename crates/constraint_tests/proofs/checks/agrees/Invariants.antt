use Rattle.std.proofs.Common.{◌≡◌, ℕ, [], ◌<◌, map, get_or}
use Rattle.constraint_tests.proofs.checks.agrees.Given as goal

abbrev pub invariant-loop-other : goal.invariant-loop-other
invariant-loop-other l = (k : ℕ) → k < l.other → get_or l.shapes l.place 0 ≡ get_or l.shapes k 0
    → get_or (map (λ a. a.items) l.answers) l.place [] ≡ get_or (map (λ a. a.items) l.answers) k []
