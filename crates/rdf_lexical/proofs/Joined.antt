-- What was kept of a name so far, and what is still ahead.
use Rattle.std.proofs.Common.{◌≡◌, ℕ, zero, suc, ◌+◌, ◌<◌, refl, ap, ◌∙◌, arith}
use Rattle.rdf_lexical.specs.Names.{with_dot}

-- where more is ahead all up to there is kept
abbrev pub joined : ℕ → ℕ → ℕ → ℕ
joined kept count zero = kept
joined kept count (suc n) = count + suc n

pub joined_in : (kept count n : ℕ) → joined kept count (suc n) ≡ joined (count + 1) (count + 1) n
joined_in kept count zero = omega arith
joined_in kept count (suc n) = omega arith

pub joined_dot : (kept count n : ℕ) → joined kept count (with_dot n) ≡ joined kept (count + 1) n
joined_dot kept count zero = refl
joined_dot kept count (suc n) = omega arith

pub joined_start : (n : ℕ) → joined 0 0 n ≡ n
joined_start zero = refl
joined_start (suc n) = omega arith

pub joined_piece : (kept count k n : ℕ) → 0 < k → joined kept count (k + n) ≡ joined (count + k) (count + k) n
joined_piece kept count zero n h = absurd (omega arith)
joined_piece kept count (suc k) zero h = let e : suc k + 0 ≡ suc k = omega arith in ap (joined kept count) e
joined_piece kept count (suc k) (suc n) h = let e : suc k + suc n ≡ suc (k + suc n) = omega arith in ap (joined kept count) e ∙ omega arith
