use Rattle.std.proofs.Common.{◌≡◌, ◌<◌, ◌≤◌, ℕ, List, length, get_or, arith, subst}
use Rattle.std.specs.Prelude.{◌↔◌, ◌⊎◌}
use Rattle.std.specs.List.{Contains}
use Rattle.std.proofs.lemmas.List.{get_or_default}
use Rattle.focus_affected.specs.declared.index.IndexedRow.{IndexedRow}
use Rattle.focus_affected.specs.declared.index.RowPlace.{RowPlace}
use Rattle.focus_affected.specs.declared.plan.ShapePlan.{ShapePlan}
use Rattle.focus_affected.specs.Index.{IsKindAt, ListsRows, indexed}
use Rattle.focus_affected.proofs.Rows.{all_predicates, next_predicate, no_predicate}
use Rattle.focus_affected.proofs.index.IndexedPlans.rows_under.Goals as goal

pub loop-predicate-init : goal.loop-predicate-init
loop-predicate-init c =
    let rows = c.self.inside.rows.items in
    let any = c.self.inside.any.items in
    let listed : ListsRows (IsKindAt c.args.self.now) rows any = subst (λ (ps : List ShapePlan). ListsRows (IsKindAt ps) rows any) c.self.view_is c.self.invariant.1 in
    let copy : c.in_ok-places.places.items ≡ any = subst (λ (xs : List RowPlace). c.in_ok-places.places.items ≡ xs) c.deref.ensures.value c.in_ok-places.ensures in
    no_predicate (IsKindAt c.args.self.now) rows any listed c.args.predicates.now c.in_ok-places.places.items copy

pub loop-predicate-preserved : goal.loop-predicate-preserved
loop-predicate-preserved c =
    let rows = c.self.inside.rows.items in
    let any = c.self.inside.any.items in
    let listed : ListsRows (IsKindAt c.args.self.now) rows any = subst (λ (ps : List ShapePlan). ListsRows (IsKindAt ps) rows any) c.self.view_is c.self.invariant.1 in
    let predicates = c.args.predicates.now in
    let less : c.loop-predicate.predicate-index < length predicates = omega (arith, c.loop-predicate-test.true) in
    let p : ℕ = get_or predicates c.loop-predicate.predicate-index 0 in
    let is : p ≡ get_or predicates c.loop-predicate.predicate-index p = get_or_default predicates c.loop-predicate.predicate-index 0 p less in
    let places = c.loop-predicate.places.items in
    let later = c.push_under.new.places.items in
    let step : (at : RowPlace) → Contains later at ↔ (Contains places at ⊎ Contains rows (indexed p at)) = subst (λ (rs : List IndexedRow). (at : RowPlace) → Contains later at ↔ (Contains places at ⊎ Contains rs (indexed p at))) c.deref-in-loop-predicate.ensures.value c.in_ok-push_under.ensures in
    next_predicate (IsKindAt c.args.self.now) rows any listed predicates c.loop-predicate.predicate-index p less is places later step c.loop-predicate.invariant

pub returns : goal.returns
returns c =
    let rows = c.self.inside.rows.items in
    let any = c.self.inside.any.items in
    let listed : ListsRows (IsKindAt c.args.self.now) rows any = subst (λ (ps : List ShapePlan). ListsRows (IsKindAt ps) rows any) c.self.view_is c.self.invariant.1 in
    let all : length c.args.predicates.now ≤ c.loop-predicate.predicate-index = omega (arith, c.loop-predicate-test.false) in
    all_predicates (IsKindAt c.args.self.now) rows any listed c.args.predicates.now c.loop-predicate.predicate-index all c.loop-predicate.places.items c.loop-predicate.invariant
