use Rattle.std.proofs.Common.{refl, arith}
use Rattle.shape_syntax.proofs.Scans.{in_all, none_more, read_in}
use Rattle.plain_components.specs.Pairs.{Shares}
use Rattle.plain_components.proofs.pairs.shares_some.Goals as goal

pub returns-then-shares : goal.returns-then-shares
returns-then-shares c = (
  λ t. (c.other-item.result, read_in c.args.values.now c.loop-other.other-index c.other-item.result (omega arith) c.other-item.is, c.shares.ensures.0 c.if-shares.true),
  λ h. refl,
)

pub loop-other-preserved : goal.loop-other-preserved
loop-other-preserved c =
    none_more (Shares c.args.tag.now c.args.value.now) c.args.values.now c.loop-other.other-index c.other-item.result (omega arith) c.other-item.is c.loop-other.invariant (λ h. let k = c.shares.ensures.1 h in cc (k, c.if-shares.false))

pub returns : goal.returns
returns c = (λ t. cc, λ h. absurd (c.loop-other.invariant h.0 (in_all c.args.values.now c.loop-other.other-index (omega arith) h.0 h.1) h.2))
