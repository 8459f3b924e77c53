use Rattle.std.proofs.Common.{◌≡◌, ◌∙◌, true, refl, sym, arith}
use Rattle.shape_syntax.proofs.Scans.{in_all, member_contains, none_more, read_in}
use Rattle.plain_values.specs.Tests.{does_match}
use Rattle.plain_values.proofs.Languages.{from_languages, to_languages}
use Rattle.plain_values.proofs.by_list.is_in_languages.Goals as goal

pub returns-then-is_matched : goal.returns-then-is_matched
returns-then-is_matched c = (
  λ t. to_languages c.args.ranges.now c.args.value.now c.range-item.result (read_in c.args.ranges.now c.loop-range.range-index c.range-item.result (omega arith) c.range-item.is) (sym c.is_matched.ensures ∙ c.if-is_matched.true),
  λ h. refl,
)

pub loop-range-preserved : goal.loop-range-preserved
loop-range-preserved c =
    none_more (λ m. does_match m c.args.value.now ≡ true) c.args.ranges.now c.loop-range.range-index c.range-item.result (omega arith) c.range-item.is c.loop-range.invariant
    (λ e. let k = c.is_matched.ensures ∙ e in cc (k, c.if-is_matched.false))

pub returns : goal.returns
returns c = (
  λ t. cc,
  λ h. absurd (let w = from_languages c.args.ranges.now c.args.value.now h in c.loop-range.invariant w.0 (in_all c.args.ranges.now c.loop-range.range-index (omega arith) w.0 (member_contains c.args.ranges.now w.0 w.1)) w.2),
)
