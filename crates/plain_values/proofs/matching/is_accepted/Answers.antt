use Rattle.std.proofs.Common.{refl, arith}
use Rattle.shape_syntax.proofs.Scans.{in_all, none_more, read_in}
use Rattle.plain_values.specs.Built.{Accepts}
use Rattle.plain_values.proofs.matching.is_accepted.Goals as goal

pub accepts-requires : goal.accepts-requires
accepts-requires c = c.requires c.pattern-item.result (read_in c.args.patterns.now c.loop-pattern.pattern-index c.pattern-item.result (omega arith) c.pattern-item.is)

pub returns-then-branch : goal.returns-then-branch
returns-then-branch c = (
  λ t. (c.pattern-item.result, read_in c.args.patterns.now c.loop-pattern.pattern-index c.pattern-item.result (omega arith) c.pattern-item.is, c.in_ok-accepts.ensures.0 c.if-branch.true),
  λ h. refl,
)

pub loop-pattern-preserved : goal.loop-pattern-preserved
loop-pattern-preserved c =
    none_more (Accepts c.args.parameter.now c.args.flags.now c.args.value.now) c.args.patterns.now c.loop-pattern.pattern-index c.pattern-item.result (omega arith) c.pattern-item.is c.loop-pattern.invariant (λ h. let k = c.in_ok-accepts.ensures.1 h in cc (k, c.if-branch.false))

pub returns : goal.returns
returns c = (λ t. cc, λ h. absurd (c.loop-pattern.invariant h.0 (in_all c.args.patterns.now c.loop-pattern.pattern-index (omega arith) h.0 h.1) h.2))
