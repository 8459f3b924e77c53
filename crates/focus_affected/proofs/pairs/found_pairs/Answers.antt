use Rattle.std.proofs.Common.{◌≡◌, ◌<◌, length, get_or, arith}
use Rattle.std.proofs.lemmas.List.{get_or_default}
use Rattle.focus_affected.specs.declared.index.RowPlace.{RowPlace}
use Rattle.focus_affected.proofs.Paired.{all_rows, next_row, no_row}
use Rattle.focus_affected.proofs.pairs.found_pairs.Goals as goal

pub loop-place-init : goal.loop-place-init
loop-place-init g c = record {
  found = no_row (g.R.Triples.triples c.args.graph.now) c.args.plans.now c.args.places.now c.args.changed.now c.new-pairs.result.items c.args.footprint.now c.new-pairs.ensures.items;
  kept = λ look h. h;
}

pub found_at-requires : goal.found_at-requires
found_at-requires g c =
    let less : c.loop-place.place-index < length c.args.places.now = omega (arith, c.loop-place-test.true) in
    let places = c.args.places.now in
    let none : RowPlace = record { plan = 0; look = 0 } in
    c.requires (get_or places c.loop-place.place-index none) (c.loop-place.place-index, less, get_or_default places c.loop-place.place-index _ none less)

pub loop-place-preserved : goal.loop-place-preserved
loop-place-preserved g c =
    let ids = g.R.Triples.triples c.args.graph.now in
    let less : c.loop-place.place-index < length c.args.places.now = omega (arith, c.loop-place-test.true) in
    let places = c.args.places.now in
    let none : RowPlace = record { plan = 0; look = 0 } in
    let at : RowPlace = get_or places c.loop-place.place-index none in
    let is : at ≡ get_or places c.loop-place.place-index at = get_or_default places c.loop-place.place-index none at less in
    record {
      found = next_row ids c.args.plans.now c.args.places.now c.args.changed.now c.loop-place.place-index at c.loop-place.pairs.items c.in_ok-more.more.items c.append.new.self.items
          c.args.footprint.now c.loop-place.footprint c.found_at.new.footprint less is c.in_ok-append.ensures.items c.loop-place.invariant.found c.in_ok-more.ensures.found;
      kept = λ look h. c.found_at.ensures.kept look (c.loop-place.invariant.kept look h);
    }

pub returns : goal.returns
returns g c = record {
  found = all_rows (g.R.Triples.triples c.args.graph.now) c.args.plans.now c.args.places.now c.args.changed.now c.loop-place.place-index c.loop-place.pairs.items c.args.footprint.now c.loop-place.footprint c.loop-place-test.false c.loop-place.invariant.found;
  kept = c.loop-place.invariant.kept;
}

pub returns-in_err-more-clause-kept : goal.returns-in_err-more-clause-kept
returns-in_err-more-clause-kept g c = λ look h. c.found_at.ensures.kept look (c.loop-place.invariant.kept look h)

pub returns-in_err-append-clause-kept : goal.returns-in_err-append-clause-kept
returns-in_err-append-clause-kept g c = λ look h. c.found_at.ensures.kept look (c.loop-place.invariant.kept look h)
