use Rattle.std.proofs.Common.{List, subst, sym}
use Rattle.std.specs.List.{Contains}
use Rattle.focus_affected.specs.declared.index.RowPlace.{RowPlace}
use Rattle.focus_affected.specs.declared.plan.ShapePlan.{ShapePlan}
use Rattle.focus_affected.specs.Finding.{FindsAtSome, WherePlans}
use Rattle.focus_affected.specs.Index.{HasRow}
use Rattle.focus_affected.proofs.Paired.{are_placed, by_index, has_rows, touch_looks, touched_pairs}
use Rattle.focus_affected.proofs.pairs.touched.Goals as goal

pub found_pairs-requires : goal.found_pairs-requires
found_pairs-requires g c = λ at d.
    subst (λ (ps : List ShapePlan). HasRow ps at) (sym c.as_slice.ensures)
    (has_rows (g.R.Triples.triples c.args.graph.now) c.args.plans.now c.in_ok-triples.triples c.predicates.result.now c.predicates.ensures c.in_ok-places.places.items c.in_ok-places.ensures at
    (subst (λ (xs : List RowPlace). Contains xs at) c.deref.ensures.value d))

pub returns : goal.returns
returns g c =
    let ids = g.R.Triples.triples c.args.graph.now in
    let plans = c.args.plans.now in
    let changed = c.args.changed.now in
    let sorted = c.in_ok-triples.triples in
    let same = c.in_ok-triples.ensures in
    let places = c.in_ok-places.places.items in
    let pairs = c.in_ok-pairs.pairs.items in
    let listed = c.in_ok-sorted_once.field-0.items in
    let old = c.args.footprint.now in
    let new = c.found_pairs.new.footprint in
    let of_plans : WherePlans ids plans sorted (λ terms. FindsAtSome terms ids sorted plans c.deref.result.now pairs old new) =
    subst (λ (ps : List ShapePlan). WherePlans ids ps sorted (λ terms. FindsAtSome terms ids sorted ps c.deref.result.now pairs old new)) c.as_slice.ensures c.in_ok-pairs.ensures.found in
    let at_places : WherePlans ids plans sorted (λ terms. FindsAtSome terms ids sorted plans places pairs old new) =
    subst (λ (xs : List RowPlace). WherePlans ids plans sorted (λ terms. FindsAtSome terms ids sorted plans xs pairs old new)) c.deref.ensures.value of_plans in
    let found = by_index ids plans sorted c.predicates.result.now c.predicates.ensures places c.in_ok-places.ensures pairs old new at_places in
    let once = c.in_ok-sorted_once.ensures in
    record {
      pairs = touched_pairs ids plans changed sorted same pairs old new found listed once;
      placed = are_placed ids plans changed sorted same pairs old new found listed once;
      looks = touch_looks ids plans changed sorted same pairs old new found;
      kept = c.found_pairs.ensures.kept;
    }
