use Rattle.std.proofs.Common.{List, arith, sym, subst, take, ◌+◌}
use Rattle.std.specs.List.{AllZip}
use Rattle.reference_totals.specs.declared.numbers.NumberedPlace.{NumberedPlace}
use Rattle.reference_totals.specs.Numbers.{IsNumbered}
use Rattle.reference_totals.proofs.Numbered.{zip_next}
use Rattle.reference_totals.proofs.numbers.numbered_places.Goals as goal

pub loop-place-preserved : goal.loop-place-preserved
loop-place-preserved c =
    subst (λ (qs : List NumberedPlace). AllZip (IsNumbered c.args.numbers.now) (take (c.loop-place.place-index + 1) c.args.places.now) qs) (sym c.in_ok-push.ensures.ok)
    (zip_next c.args.places.now c.args.numbers.now c.loop-place.place-index c.place-item.result c.place-item.result c.loop-place.numbered c.in_ok-numbered_place.field-0
    (omega arith) c.place-item.is c.in_ok-numbered_place.ensures c.loop-place.invariant)
