use Rattle.std.proofs.Common.{refl, inl, inr}
use Rattle.shape_sizes.proofs.path_looks.push_path_place.Goals as goal

pub returns-then-is_path : goal.returns-then-is_path
returns-then-is_path c = inl (c.in_ok-path_place.field-0, c.in_ok-path_place.ensures.0, c.in_ok-path_place.ensures.1, c.in_ok-push.ensures.ok)

pub returns : goal.returns
returns c = inr (λ h. let k = c.is_path.ensures.1 h in cc, refl)
