use Rattle.std.proofs.Common.{◌∙◌, ℕ, List, ap, map, sym, subst}
use Rattle.rdf_model.specs.declared.look.Look.{Look}
use Rattle.focus_affected.specs.Touched.{AddsTouchLooks}
use Rattle.shape_eval.specs.Settings.{Setting}
use Rattle.parallel_validate.specs.declared.pairs.CheckedRows.{CheckedRows}
use Rattle.parallel_validate.specs.PairsResults.{AddsLooksOfPairs, ArePlacedPairs, HaveRows, StepsOfPairs, pair_of}
use Rattle.parallel_validate.specs.Verdicts.{KeepsChecked, StandsBeside, WhereChecked}
use Rattle.threaded_check.proofs.Verdict.{are_bound, are_checked, are_counted, beside, is_footprint, placed}
use Rattle.threaded_check.proofs.checking.check_by_threads.Goals as goal

pub rows_of_pairs-requires-clause-placed : goal.rows_of_pairs-requires-clause-placed
rows_of_pairs-requires-clause-placed g c κs within =
    let terms = g.N.Names.terms c.args.names.now in
    let shapes = c.args.planned.now.bound.shapes in
    let plans = c.args.planned.now.plans in
    let bound = c.requires.planned.bound_plans in
    let are = c.requires.planned.plans in
    subst (λ (e : Setting). ArePlacedPairs e.terms e.shapes c.deref.result.now) (sym c.new-evaluation.ensures)
    (subst (λ (ps : List (ℕ × ℕ)). ArePlacedPairs terms shapes ps) (sym c.deref.ensures.value)
    (placed terms (g.R.Triples.triples c.args.before.now) c.args.changed.now shapes plans c.in_ok-pairs.pairs.items c.requires.numbering c.requires.before c.requires.changed bound are c.in_ok-pairs.ensures.placed))

pub returns : goal.returns
returns g c =
    let terms = g.N.Names.terms c.args.names.now in
    let before = g.R.Triples.triples c.args.before.now in
    let later = g.S.Triples.triples c.args.later.now in
    let shapes = c.args.planned.now.bound.shapes in
    let plans = c.args.planned.now.plans in
    let bound = c.requires.planned.bound_plans in
    let are = c.requires.planned.plans in
    let changed = c.args.changed.now in
    let pairs = c.in_ok-pairs.pairs.items in
    let checked = c.in_ok-checked.checked.items in
    let mid = c.touched.new.footprint in
    let new = c.rows_of_pairs.new.footprint in
    let found = subst (λ (ls : List (Look ℕ)). AddsTouchLooks before plans changed ls mid) c.new-looks.ensures c.in_ok-pairs.ensures.looks in
    let at = placed terms before changed shapes plans pairs c.requires.numbering c.requires.before c.requires.changed bound are c.in_ok-pairs.ensures.placed in
    let have = subst (λ (ps : List (ℕ × ℕ)). HaveRows terms later shapes ps checked) c.deref.ensures.value
    (subst (λ (e : Setting). HaveRows e.terms e.ids e.shapes c.deref.result.now checked) c.new-evaluation.ensures c.in_ok-checked.ensures.rows) in
    let looked = subst (λ (ps : List (ℕ × ℕ)). AddsLooksOfPairs terms later shapes ps mid new) c.deref.ensures.value
    (subst (λ (e : Setting). AddsLooksOfPairs e.terms e.ids e.shapes c.deref.result.now mid new) c.new-evaluation.ensures c.in_ok-checked.ensures.looks) in
    let counted = subst (λ (ps : List (ℕ × ℕ)). StepsOfPairs terms later shapes ps c.args.steps.now c.rows_of_pairs.new.steps) c.deref.ensures.value
    (subst (λ (e : Setting). StepsOfPairs e.terms e.ids e.shapes c.deref.result.now c.args.steps.now c.rows_of_pairs.new.steps) c.new-evaluation.ensures c.in_ok-checked.ensures.steps) in
    record {
      checked = subst (λ (cs : List CheckedRows). WhereChecked terms before later shapes changed (KeepsChecked terms shapes cs)) (sym c.from_vec.ensures) (are_checked terms before later changed shapes plans pairs checked mid new c.requires.numbering c.requires.before c.requires.changed bound are
          c.in_ok-pairs.ensures.pairs found at have looked);
      placed = subst (λ (ps : List (ℕ × ℕ)). ArePlacedPairs terms shapes ps) (sym (ap (map pair_of) c.from_vec.ensures ∙ have.same)) at;
      looks = is_footprint terms before later changed shapes plans pairs checked mid new c.requires.numbering c.requires.before c.requires.changed bound are
          c.in_ok-pairs.ensures.pairs found at have looked;
      bound = are_bound terms before later changed shapes plans pairs checked mid new c.requires.numbering c.requires.before c.requires.changed bound are
          c.in_ok-pairs.ensures.pairs found at have looked;
      beside = subst (λ (cs : List CheckedRows). WhereChecked terms before later shapes changed (StandsBeside terms shapes cs new)) (sym c.from_vec.ensures) (beside terms before later changed shapes plans pairs checked mid new c.requires.numbering c.requires.before c.requires.changed bound are
          c.in_ok-pairs.ensures.pairs found at have looked);
      steps = λ graph s net stand acyclic shallow ascending same same_later is. are_counted terms before later changed shapes plans pairs checked mid new c.requires.numbering c.requires.before c.requires.changed bound are
          c.in_ok-pairs.ensures.pairs found at have looked graph s net stand acyclic shallow ascending same same_later is c.args.steps.now c.rows_of_pairs.new.steps counted;
      counted = c.rows_of_pairs.ensures.counted;
    }
