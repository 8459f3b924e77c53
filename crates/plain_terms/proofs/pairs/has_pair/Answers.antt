use Rattle.std.proofs.Common.{◌≡◌, refl, subst, arith}
use Rattle.std.specs.List.{Contains}
use Rattle.shape_syntax.proofs.Scans.{in_all, none_more, read_in}
use Rattle.plain_terms.specs.declared.relation.Pair.{Pair}
use Rattle.plain_terms.proofs.pairs.has_pair.Goals as goal

pub returns-then-is_same_pair : goal.returns-then-is_same_pair
returns-then-is_same_pair c = (
  λ t. subst (λ (x : Pair). Contains c.args.pairs.now x) (c.is_same_pair.ensures.0 c.if-is_same_pair.true) (read_in c.args.pairs.now c.loop-other.other-index c.other-item.result (omega arith) c.other-item.is),
  λ h. refl,
)

pub loop-other-preserved : goal.loop-other-preserved
loop-other-preserved c =
    none_more (λ (x : Pair). x ≡ c.args.pair.now) c.args.pairs.now c.loop-other.other-index c.other-item.result (omega arith) c.other-item.is c.loop-other.invariant
    (λ e. let k = c.is_same_pair.ensures.1 e in cc (k, c.if-is_same_pair.false))

pub returns : goal.returns
returns c = (λ t. cc, λ h. absurd (c.loop-other.invariant c.args.pair.now (in_all c.args.pairs.now c.loop-other.other-index (omega arith) c.args.pair.now h) refl))
