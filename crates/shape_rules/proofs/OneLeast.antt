-- Rows that come before each other in the order of rows are one.
use Rattle.std.proofs.Common.{◌≡◌, ◌∙◌, refl, ap}
use Rattle.std.specs.Prelude.{◌≢◌}
use Rattle.std.specs.declared.cmp.Ordering.{Ordering}
use Rattle.std.specs.declared.cmp.Ordering.TheVariants.{Less, Equal, Greater}
use Rattle.std.specs.FinMap.{nat_cmp-IsAntisymmetric}
use Rattle.std.specs.Ordering.{nat_cmp, ordering_reverse, ordering_then}
use Rattle.rdf_model.specs.Orders.{term_exact}
use Rattle.rdf_model.specs.Terms.{term_cmp}
use Rattle.shape_model.specs.Orders.{optional_term_exact}
use Rattle.shape_model.specs.Rows.{optional_term_cmp}
use Rattle.shape_rules.specs.declared.rule_row.RuleRow.{RuleRow}
use Rattle.shape_rules.specs.Laws.{LeastLaw}
use Rattle.shape_rules.specs.Rows.{row_cmp}
use Rattle.shape_rules.proofs.LeastRows.{row_total}

both_equal : (o p : Ordering) → ordering_then o p ≡ Equal → (o ≡ Equal) × (p ≡ Equal)
both_equal Less p h = cc
both_equal Equal p h = (refl, h)
both_equal Greater p h = cc

row_exact : (q r : RuleRow) → row_cmp q r ≡ Equal → q ≡ r
row_exact q r h =
    let a = both_equal (term_cmp q.node r.node) (ordering_then (nat_cmp q.rule r.rule) (optional_term_cmp q.value r.value)) h in
    let b = both_equal (nat_cmp q.rule r.rule) (optional_term_cmp q.value r.value) a.1 in
    let node = term_exact q.node r.node a.0 in
    let rule = nat_cmp-IsAntisymmetric q.rule r.rule b.0 in
    let value = optional_term_exact q.value r.value b.1 in
    λ i. record { node = node i; rule = rule i; value = value i }

same_place : (q r : RuleRow) → row_cmp q r ≢ Greater → row_cmp r q ≢ Greater → row_cmp q r ≡ Equal
same_place q r h k = elim (row_cmp q r) as (λ (o : Ordering). row_cmp q r ≡ o → row_cmp q r ≡ Equal) [
  | Less ↦ λ e. absurd (k (row_total.antisymm r q ∙ ap ordering_reverse e))
  | Equal ↦ λ e. e
  | Greater ↦ λ e. absurd (h e)
] refl

pub one_least : LeastLaw
one_least s q r a b = row_exact q r (same_place q r (a.1 r b.0) (b.1 q a.0))
