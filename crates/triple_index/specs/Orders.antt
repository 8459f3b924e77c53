-- The laws of the order of keys.
use Rattle.std.specs.Prelude.{◌≡◌, refl}
use Rattle.std.specs.declared.cmp.Ordering.{Ordering}
use Rattle.std.specs.declared.cmp.Ordering.TheVariants.{Less, Equal, Greater}
use Rattle.std.specs.Ordering.{nat_cmp, ordering_then}
use Rattle.std.specs.Cmp.{IsTotalOrder}
use Rattle.std.specs.FinMap.{nat_cmp-IsAntisymmetric}
use Rattle.std.proofs.lemmas.Cmp.{nat_cmp_total, on_total, then_total}
use Rattle.triple_index.specs.declared.key.Key.{Key}
use Rattle.triple_index.specs.Keys.{key_cmp}

pub key_total : IsTotalOrder key_cmp
key_total = then_total (then_total (on_total (λ (k : Key). k.first) nat_cmp_total) (on_total (λ (k : Key). k.second) nat_cmp_total)) (on_total (λ (k : Key). k.third) nat_cmp_total)

both_equal : (a b : Ordering) → ordering_then a b ≡ Equal → (a ≡ Equal) × (b ≡ Equal)
both_equal Less b h = cc
both_equal Equal b h = (refl, h)
both_equal Greater b h = cc

-- keys that tie are one
pub key_exact : (a b : Key) → key_cmp a b ≡ Equal → a ≡ b
key_exact a b h =
    let p = both_equal (ordering_then (nat_cmp a.first b.first) (nat_cmp a.second b.second)) (nat_cmp a.third b.third) h in
    let q = both_equal (nat_cmp a.first b.first) (nat_cmp a.second b.second) p.0 in
    let first = nat_cmp-IsAntisymmetric a.first b.first q.0 in
    let second = nat_cmp-IsAntisymmetric a.second b.second q.1 in
    let third = nat_cmp-IsAntisymmetric a.third b.third p.1 in
    λ i. record { first = first i; second = second i; third = third i }
