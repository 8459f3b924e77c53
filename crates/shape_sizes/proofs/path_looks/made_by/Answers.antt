use Rattle.std.proofs.Common.{inl, inr}
use Rattle.shape_sizes.proofs.path_looks.made_by.Goals as goal

pub returns-then-is_alternative : goal.returns-then-is_alternative
returns-then-is_alternative c = inl (c.is_alternative.ensures.0 c.if-is_alternative.true, c.in_ok-members.ensures)

pub returns : goal.returns
returns c = inr (λ e. let k = c.is_alternative.ensures.1 e in cc, c.in_ok-value.ensures)
