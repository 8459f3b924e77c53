-- The laws of the order of entries.
use Rattle.std.specs.Prelude.{◌≡◌, refl}
use Rattle.std.specs.declared.cmp.Ordering.{Ordering}
use Rattle.std.specs.declared.cmp.Ordering.TheVariants.{Less, Equal, Greater}
use Rattle.std.specs.Ordering.{nat_cmp, ordering_then}
use Rattle.std.specs.Cmp.{IsTotalOrder}
use Rattle.std.specs.FinMap.{nat_cmp-IsAntisymmetric}
use Rattle.std.proofs.lemmas.Cmp.{nat_cmp_total, on_total, then_total}
use Rattle.term_dict.specs.declared.entry.ByHash.{ByHash}
use Rattle.term_dict.specs.Entries.{entry_cmp}

pub entry_total : IsTotalOrder entry_cmp
entry_total = then_total (on_total (λ (e : ByHash). e.hash) nat_cmp_total) (on_total (λ (e : ByHash). e.number) nat_cmp_total)

both_equal : (a b : Ordering) → ordering_then a b ≡ Equal → (a ≡ Equal) × (b ≡ Equal)
both_equal Less b h = cc
both_equal Equal b h = (refl, h)
both_equal Greater b h = cc

-- entries that tie are one
pub entry_exact : (a b : ByHash) → entry_cmp a b ≡ Equal → a ≡ b
entry_exact a b h =
    let p = both_equal (nat_cmp a.hash b.hash) (nat_cmp a.number b.number) h in
    let hash = nat_cmp-IsAntisymmetric a.hash b.hash p.0 in
    let number = nat_cmp-IsAntisymmetric a.number b.number p.1 in
    λ i. record { hash = hash i; number = number i }
