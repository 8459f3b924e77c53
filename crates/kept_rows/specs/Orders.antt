-- The laws of the order of kept results.
use Rattle.std.specs.Prelude.{◌≡◌, refl}
use Rattle.std.specs.declared.cmp.Ordering.{Ordering}
use Rattle.std.specs.declared.cmp.Ordering.TheVariants.{Less, Equal, Greater}
use Rattle.std.specs.Ordering.{nat_cmp, ordering_then}
use Rattle.std.specs.Cmp.{IsTotalOrder}
use Rattle.std.proofs.lemmas.Cmp.{nat_cmp_total, on_total, then_total}
use Rattle.std.specs.FinMap.{nat_cmp-IsAntisymmetric}
use Rattle.shape_model.specs.Orders.{result_row_exact, result_row_total}
use Rattle.shape_model.specs.Rows.{result_row_cmp}
use Rattle.kept_rows.specs.declared.kept_row.KeptRow.{KeptRow}
use Rattle.kept_rows.specs.Kept.{kept_cmp}

pub kept_total : IsTotalOrder kept_cmp
kept_total = then_total (on_total (λ (k : KeptRow). k.shape) nat_cmp_total) (then_total (on_total (λ (k : KeptRow). k.focus) nat_cmp_total) (on_total (λ (k : KeptRow). k.row) result_row_total))

-- when two orders in turn find no difference, neither does
both_equal : (o p : Ordering) → ordering_then o p ≡ Equal → (o ≡ Equal) × (p ≡ Equal)
both_equal Less p h = cc
both_equal Equal p h = (refl, h)
both_equal Greater p h = cc

-- kept results that compare alike are one
pub kept_exact : (a b : KeptRow) → kept_cmp a b ≡ Equal → a ≡ b
kept_exact a b h =
    let p = both_equal (nat_cmp a.shape b.shape) (ordering_then (nat_cmp a.focus b.focus) (result_row_cmp a.row b.row)) h in
    let q = both_equal (nat_cmp a.focus b.focus) (result_row_cmp a.row b.row) p.1 in
    let x = nat_cmp-IsAntisymmetric a.shape b.shape p.0 in
    let y = nat_cmp-IsAntisymmetric a.focus b.focus q.0 in
    let z = result_row_exact a.row b.row q.1 in
    λ i. record { shape = x i; focus = y i; row = z i }
