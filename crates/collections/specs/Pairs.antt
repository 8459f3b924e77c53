-- Pairs of numbers, in the order of their parts.
use Rattle.std.specs.Prelude.{◌≡◌, ℕ, refl}
use Rattle.std.specs.declared.cmp.Ordering.{Ordering}
use Rattle.std.specs.declared.cmp.Ordering.TheVariants.{Less, Equal, Greater}
use Rattle.std.specs.Ordering.{nat_cmp, ordering_then}
use Rattle.std.specs.FinMap.{nat_cmp-IsAntisymmetric}

-- by the first number, then by the second
abbrev pub pair_cmp : ℕ × ℕ → ℕ × ℕ → Ordering
pair_cmp x y = ordering_then (nat_cmp x.0 y.0) (nat_cmp x.1 y.1)

both_equal : (a b : Ordering) → ordering_then a b ≡ Equal → (a ≡ Equal) × (b ≡ Equal)
both_equal Less b h = cc
both_equal Equal b h = (refl, h)
both_equal Greater b h = cc

pub pair_exact : (x y : ℕ × ℕ) → pair_cmp x y ≡ Equal → x ≡ y
pair_exact x y h =
    let p = both_equal (nat_cmp x.0 y.0) (nat_cmp x.1 y.1) h in
    let first = nat_cmp-IsAntisymmetric x.0 y.0 p.0 in
    let second = nat_cmp-IsAntisymmetric x.1 y.1 p.1 in
    λ j. (first j, second j)
