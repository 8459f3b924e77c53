use Rattle.std.proofs.Common.{◌≡◌, ◌∙◌, ℕ, refl, sym, arith, Some, None, inl, inr}
use Rattle.std.specs.Prelude.{Option}
use Rattle.shape_model.specs.Limits.{looks_limit}
use Rattle.shape_sizes.specs.Sizes.{looks_of}
use Rattle.reference_totals.specs.Totals.{capped}
use Rattle.shape_sizes.proofs.path_looks.path_looks_at.Goals as goal

none_counted : (most : ℕ) → 0 ≡ capped most 0
none_counted most = omega arith

not_both : (o : Option ℕ) (v : ℕ) → o ≡ None → o ≡ Some v → ⊥
not_both o v e f = cc

pub returns-in-Some : goal.returns-in-Some
returns-in-Some c =
    let q = c.requires.table.sound c.args.node.now c.in-Some.total (sym c.total_of.ensures ∙ c.in-Some.is) in
    (looks_of q.0, inl (q.0, q.1, refl), q.2)

pub returns-in-None : goal.returns-in-None
returns-in-None c = (
  0,
  inr (λ q path. let k = c.requires.table.all c.args.node.now q c.requires.node path in not_both _ k.0 (sym c.total_of.ensures ∙ c.in-None.is) k.1, refl),
  none_counted looks_limit,
)
