use Rattle.std.proofs.Common.{inl, inr}
use Rattle.shape_syntax.proofs.Loops.{gave_none}
use Rattle.shape_references.specs.Siblings.{IsParentBy}
use Rattle.shape_references.proofs.parents.push_parent.Goals as goal

pub returns-then-is_property : goal.returns-then-is_property
returns-then-is_property c = λ n.
    let here = c.is_property.ensures.0 c.if-is_property.true in
    let step = c.in_ok-push_unless_last.ensures n in (
      λ h. elim (step.0 h) [ inl old ↦ inl old | inr e ↦ inr (here, e) ],
      λ h. elim h [ inl old ↦ step.1 (inl old) | inr e ↦ step.1 (inr e.1) ],
    )

pub returns : goal.returns
returns c = gave_none (IsParentBy c.args.triple.now) c.args.parents.now (λ n h. let k = c.is_property.ensures.1 h.0 in cc)
