use Rattle.std.proofs.Common.{◌≡◌, ◌-◌, length, refl, subst, sym, arith, Some}
use Rattle.std.specs.Prelude.{slice_get}
use Rattle.std.proofs.lemmas.Option.{slice_get_read}
use Rattle.reference_totals.specs.declared.place.WeightedPlace.{WeightedPlace}
use Rattle.reference_totals.specs.Numbers.{Notes}
use Rattle.reference_totals.proofs.Numbered.{indices_more, none_in, numbers_before}
use Rattle.reference_totals.proofs.numbers.numbers_of.Goals as goal

pub loop-count-init : goal.loop-count-init
loop-count-init c = (
  λ n i e. absurd (let none = none_in c.new-numbers.result c.new-numbers.ensures.empty n in cc),
  λ i q low high here. absurd (omega arith),
)

pub loop-count-preserved : goal.loop-count-preserved
loop-count-preserved c =
    let places = c.args.places.now in
    let k = length places - 1 - c.loop-count.count in
    let p = c.index-places-index.result in
    let got : slice_get places k ≡ Some p = slice_get_read places _ k p refl (omega arith) c.index-places-index.is in
    let notes : Notes c.loop-count.numbers p.node k c.put_number.new.numbers
    = subst (λ (x : WeightedPlace). Notes c.loop-count.numbers x.node k c.put_number.new.numbers) (sym c.index-places-index.is) c.in_ok-put_number.ensures in
    let from = numbers_before places c.loop-count.numbers c.put_number.new.numbers k (length places - c.loop-count.count) k p (omega arith) (omega arith) c.index-places-index.is notes c.loop-count.invariant.1 in (
      indices_more places c.loop-count.numbers c.put_number.new.numbers k p got notes c.loop-count.invariant.0,
      λ i q low high here. from i q (omega arith) high here,
    )

pub returns-clause-all : goal.returns-clause-all
returns-clause-all c = λ q there. c.loop-count.invariant.1 there.0 q (omega arith) there.1 (sym there.2)
