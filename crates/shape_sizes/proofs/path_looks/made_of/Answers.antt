use Rattle.std.proofs.Common.{inl, inr}
use Rattle.shape_sizes.proofs.path_looks.made_of.Goals as goal

pub returns-in-Some : goal.returns-in-Some
returns-in-Some c = inl (rw c.in-Some.is at c.in_ok-members.ensures)

pub returns-in_ok-nodes-in-None : goal.returns-in_ok-nodes-in-None
returns-in_ok-nodes-in-None c =
    let never = rw c.in-None.is at c.in_ok-members.ensures in
    elim c.in_ok-nodes-in-None.ensures [
      | inl h ↦ inr (inl (never, h))
      | inr h ↦ inr (inr h)
    ]
