use Rattle.std.proofs.Common.{inl, inr}
use Rattle.shape_syntax.proofs.below.descend.Goals as goal

pub returns : goal.returns
returns c = λ n h. elim h [
  | inl old ↦ (c.in_ok-push_unless_last.ensures n).1 (inl (c.loop.invariant n old))
  | inr e ↦ (c.in_ok-push_unless_last.ensures n).1 (inr e)
]
