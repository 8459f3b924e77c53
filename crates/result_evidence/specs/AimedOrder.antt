-- The order of results with the aims that give them. It is total, and finds no difference only between equals.
use Rattle.std.specs.Prelude.{◌≡◌, refl}
use Rattle.std.specs.declared.cmp.Ordering.{Ordering}
use Rattle.std.specs.declared.cmp.Ordering.TheVariants.{Less, Equal, Greater}
use Rattle.std.specs.Ordering.{nat_cmp, ordering_then}
use Rattle.std.specs.FinMap.{nat_cmp-IsAntisymmetric}
use Rattle.std.specs.Cmp.{IsTotalOrder}
use Rattle.std.proofs.lemmas.Cmp.{nat_cmp_total, on_total, then_total}
use Rattle.rdf_model.specs.Terms.{term_cmp}
use Rattle.rdf_model.specs.Orders.{term_total, term_exact}
use Rattle.shape_model.specs.Rows.{result_row_cmp}
use Rattle.shape_model.specs.Orders.{result_row_exact, result_row_total}
use Rattle.result_evidence.specs.declared.aimed_row.AimedRow.{AimedRow}

-- by row, then by the place of the shape, then by focus node, then by its number
abbrev pub aimed_cmp : AimedRow → AimedRow → Ordering
aimed_cmp x y = ordering_then (result_row_cmp x.row y.row) (ordering_then (nat_cmp x.place y.place) (ordering_then (term_cmp x.focus y.focus) (nat_cmp x.number y.number)))

pub aimed_total : IsTotalOrder aimed_cmp
aimed_total =
    then_total (on_total (λ (x : AimedRow). x.row) result_row_total)
    (then_total (on_total (λ (x : AimedRow). x.place) nat_cmp_total)
    (then_total (on_total (λ (x : AimedRow). x.focus) term_total)
    (on_total (λ (x : AimedRow). x.number) nat_cmp_total)))

-- when two orders in turn find no difference, neither does
both_equal : (o p : Ordering) → ordering_then o p ≡ Equal → (o ≡ Equal) × (p ≡ Equal)
both_equal Less p h = cc
both_equal Equal p h = (refl, h)
both_equal Greater p h = cc

pub aimed_exact : (a b : AimedRow) → aimed_cmp a b ≡ Equal → a ≡ b
aimed_exact a b h =
    let by_focus = ordering_then (term_cmp a.focus b.focus) (nat_cmp a.number b.number) in
    let p = both_equal (result_row_cmp a.row b.row) (ordering_then (nat_cmp a.place b.place) by_focus) h in
    let q = both_equal (nat_cmp a.place b.place) by_focus p.1 in
    let u = both_equal (term_cmp a.focus b.focus) (nat_cmp a.number b.number) q.1 in
    let row = result_row_exact a.row b.row p.0 in
    let place = nat_cmp-IsAntisymmetric a.place b.place q.0 in
    let focus = term_exact a.focus b.focus u.0 in
    let number = nat_cmp-IsAntisymmetric a.number b.number u.1 in
    λ i. record { row = row i; place = place i; focus = focus i; number = number i }
