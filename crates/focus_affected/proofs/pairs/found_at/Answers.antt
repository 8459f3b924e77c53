use Rattle.std.proofs.Common.{◌≡◌, ℕ, List, map, get_or, subst, sym}
use Rattle.focus_affected.specs.declared.plan.NumberedLook.{NumberedLook}
use Rattle.focus_affected.specs.Finding.{FindsAt, WherePlans}
use Rattle.focus_affected.specs.Index.{IsRowAt}
use Rattle.focus_affected.proofs.Paired.{found_there, item_at}
use Rattle.focus_affected.proofs.pairs.found_at.Goals as goal

pub returns-clause-found : goal.returns-clause-found
returns-clause-found g c =
    let ids = g.R.Triples.triples c.args.graph.now in
    let plans = c.args.plans.now in
    let at = c.args.at.now in
    let changed = c.args.changed.now in
    let plan = c.index-plans-at.result in
    let look = c.index-as_slice-at.result in
    let found = item_at plans at plan c.index-plans-at.is c.requires in
    let is : look ≡ get_or plan.looks at.look look = subst (λ (ls : List NumberedLook). look ≡ get_or ls at.look look) c.as_slice.ensures c.index-as_slice-at.is in
    let row : IsRowAt plans at plan look = record { of_plans = (c.requires.2.of_plans.0, sym c.index-plans-at.is); of_plan = (found.1.0, sym is) } in
    let nodes = c.in_ok-nodes.nodes.items in
    let old = c.args.footprint.now in
    let new = c.found_by.new.footprint in
    let pairs = c.in_ok-pairs_of.field-0.items in
    let are : pairs ≡ map (λ n. (plan.place, n)) nodes = subst (λ (ns : List ℕ). pairs ≡ map (λ n. (plan.place, n)) ns) c.deref.ensures.value c.in_ok-pairs_of.ensures in
    subst (λ (ps : List (ℕ × ℕ)). WherePlans ids plans changed (λ terms. FindsAt terms ids changed plans at ps old new)) (sym are)
    (found_there plans at plan look row ids changed nodes old new c.in_ok-nodes.ensures.found)
