use Rattle.std.proofs.Common.{◌≡◌, ℕ, List, Bool, false, get_or, subst, arith}
use Rattle.shape_references.proofs.MarkedChains.{no_more_marks}
use Rattle.shape_references.proofs.marks.marks_with_chain.Goals as goal

pub returns-then-not-has_mark : goal.returns-then-not-has_mark
returns-then-not-has_mark c =
    no_more_marks c.args.steps.now c.loop-length._length c.args.count c.loop-length.marks.items (omega arith)
    (subst (λ (marks : List Bool). (i : ℕ) → get_or marks i false ≡ false) c.as_slice.ensures.value (c.has_mark.ensures c.if-not-has_mark.true)) c.loop-length.invariant
