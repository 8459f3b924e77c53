use Rattle.std.proofs.Common.{refl}
use Rattle.shape_syntax.proofs.Loops.{gave, gave_none}
use Rattle.shape_references.specs.Siblings.{IsReverseOf}
use Rattle.shape_references.proofs.siblings.push_reversed.Goals as goal

pub returns-then-is_property : goal.returns-then-is_property
returns-then-is_property c = gave (IsReverseOf c.args.triple.now) c.args.reversed.now c.push.new.self _ (rw c.in_ok-reverse_of.ensures at c.in_ok-push.ensures.ok)
    (c.is_property.ensures.0 c.if-is_property.true, refl) (λ x h. h.1)

pub returns : goal.returns
returns c = gave_none (IsReverseOf c.args.triple.now) c.args.reversed.now (λ t h. let k = c.is_property.ensures.1 h.0 in cc)
