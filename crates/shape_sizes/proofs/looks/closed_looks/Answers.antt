use Rattle.std.proofs.Common.{refl, inl, inr}
use Rattle.shape_sizes.proofs.looks.closed_looks.Goals as goal

pub returns-then-is_true_at : goal.returns-then-is_true_at
returns-then-is_true_at c = inl (c.is_true_at.ensures.0 c.if-is_true_at.true, refl)

pub returns-else-is_true_at : goal.returns-else-is_true_at
returns-else-is_true_at c = inr (λ h. let k = c.is_true_at.ensures.1 h in cc, refl)
