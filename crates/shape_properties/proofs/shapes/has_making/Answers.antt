use Rattle.std.proofs.Common.{refl, arith}
use Rattle.shape_properties.specs.OfProperties.{OfMaking}
use Rattle.shape_syntax.proofs.Scans.{read_in, none_more, in_all}
use Rattle.shape_properties.proofs.shapes.has_making.Goals as goal

pub returns-then-is_making : goal.returns-then-is_making
returns-then-is_making c = (
  λ h. (c.triple-item.result, read_in c.args.own.now c.loop-triple.triple-index c.triple-item.result (omega arith) c.triple-item.is, c.is_making.ensures.0 c.if-is_making.true),
  λ i. refl,
)

pub loop-triple-preserved : goal.loop-triple-preserved
loop-triple-preserved c = none_more OfMaking c.args.own.now c.loop-triple.triple-index c.triple-item.result (omega arith) c.triple-item.is c.loop-triple.invariant (λ h. let k = c.is_making.ensures.1 h in cc)

pub returns : goal.returns
returns c = (
  λ h. cc,
  λ i. absurd (c.loop-triple.invariant i.0 (in_all c.args.own.now c.loop-triple.triple-index (omega arith) i.0 i.1) i.2),
)
