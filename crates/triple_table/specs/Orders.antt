-- The laws of the orders of terms with their places, and of triples by ranks.
use Rattle.std.specs.Prelude.{◌≡◌, refl}
use Rattle.std.specs.declared.cmp.Ordering.{Ordering}
use Rattle.std.specs.declared.cmp.Ordering.TheVariants.{Less, Equal, Greater}
use Rattle.std.specs.Ordering.{nat_cmp, ordering_then}
use Rattle.std.specs.Cmp.{IsTotalOrder}
use Rattle.std.specs.FinMap.{nat_cmp-IsAntisymmetric}
use Rattle.std.proofs.lemmas.Cmp.{nat_cmp_total, on_total, then_total}
use Rattle.rdf_model.specs.Orders.{term_exact, term_total}
use Rattle.rdf_model.specs.Terms.{term_cmp}
use Rattle.triple_table.specs.Ranks.{Placed, Ranked, placed_cmp, ranked_cmp}

-- when two orders in turn find no difference, neither does
both_equal : (o p : Ordering) → ordering_then o p ≡ Equal → (o ≡ Equal) × (p ≡ Equal)
both_equal Less p h = cc
both_equal Equal p h = (refl, h)
both_equal Greater p h = cc

pub placed_total : IsTotalOrder placed_cmp
placed_total = then_total (then_total (on_total (λ (p : Placed). p.key) nat_cmp_total) (on_total (λ (p : Placed). p.term) term_total)) (on_total (λ (p : Placed). p.place) nat_cmp_total)

-- those that tie are one
pub placed_exact : (a b : Placed) → placed_cmp a b ≡ Equal → a ≡ b
placed_exact a b h =
    let p = both_equal (ordering_then (nat_cmp a.key b.key) (term_cmp a.term b.term)) (nat_cmp a.place b.place) h in
    let q = both_equal (nat_cmp a.key b.key) (term_cmp a.term b.term) p.0 in
    let key = nat_cmp-IsAntisymmetric a.key b.key q.0 in
    let term = term_exact a.term b.term q.1 in
    let place = nat_cmp-IsAntisymmetric a.place b.place p.1 in
    λ i. record { key = key i; term = term i; place = place i }

pub ranked_total : IsTotalOrder ranked_cmp
ranked_total = then_total (on_total (λ (r : Ranked). r.subject) nat_cmp_total) (then_total (on_total (λ (r : Ranked). r.predicate) nat_cmp_total) (then_total (on_total (λ (r : Ranked). r.object) term_total) (on_total (λ (r : Ranked). r.number) nat_cmp_total)))

pub ranked_exact : (a b : Ranked) → ranked_cmp a b ≡ Equal → a ≡ b
ranked_exact a b h =
    let last = ordering_then (term_cmp a.object b.object) (nat_cmp a.number b.number) in
    let p = both_equal (nat_cmp a.subject b.subject) (ordering_then (nat_cmp a.predicate b.predicate) last) h in
    let q = both_equal (nat_cmp a.predicate b.predicate) last p.1 in
    let o = both_equal (term_cmp a.object b.object) (nat_cmp a.number b.number) q.1 in
    let subject = nat_cmp-IsAntisymmetric a.subject b.subject p.0 in
    let predicate = nat_cmp-IsAntisymmetric a.predicate b.predicate q.0 in
    let object = term_exact a.object b.object o.0 in
    let number = nat_cmp-IsAntisymmetric a.number b.number o.1 in
    λ i. record { subject = subject i; predicate = predicate i; object = object i; number = number i }
