use Rattle.std.proofs.Common.{refl, inl, inr}
use Rattle.shape_references.proofs.leading.ask.Goals as goal

pub returns-then-is_shown : goal.returns-then-is_shown
returns-then-is_shown c = inl (c.is_shown.ensures.0 c.if-is_shown.true, c.in_ok-put.ensures, refl)

pub returns : goal.returns
returns c = inr (λ h. let k = c.is_shown.ensures.1 h in cc, refl, rw c.in_ok-clone.ensures.cases at c.in_ok-push.ensures.ok)
