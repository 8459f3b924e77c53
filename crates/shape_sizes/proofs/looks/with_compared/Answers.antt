use Rattle.std.proofs.Common.{◌≡◌, ◌+◌, ℕ, arith}
use Rattle.reference_totals.specs.Totals.{capped}
use Rattle.shape_model.specs.Limits.{looks_limit}
use Rattle.shape_sizes.proofs.looks.with_compared.Goals as goal

four_each : (m s e d l k a b c z : ℕ) → a ≡ capped m (s + e) → b ≡ capped m (a + d) → c ≡ capped m (b + l) → z ≡ capped m (c + k) → z ≡ capped m (s + e + d + l + k)
four_each m s e d l k a b c z f g h i = omega arith

pub returns : goal.returns
returns c = four_each looks_limit c.args.sum _ _ _ _ c.in_ok-equal.equal c.in_ok-apart.apart c.in_ok-less.less c.in_ok-all.all c.in_ok-equal.ensures c.in_ok-apart.ensures c.in_ok-less.ensures c.in_ok-all.ensures
