use Rattle.std.proofs.Common.{◌≡◌, ◌≤◌, ◌<◌, ℕ, List, length, get_or, take, arith, subst, sym}
use Rattle.std.proofs.lemmas.List.{get_or_default, take_all}
use Rattle.parallel_validate.specs.PairsResults.{AddsLooksOfPairs, HaveRows, StepsOfPairs}
use Rattle.parallel_validate.proofs.PairsParts.{next_pair_looks, next_rows, next_steps, no_looks_yet, no_rows_yet, no_steps_yet}
use Rattle.parallel_validate.proofs.pairs.checked_pairs.Goals as goal

pub loop-pair-init : goal.loop-pair-init
loop-pair-init g c = record {
  rows = no_rows_yet c.args.evaluation.now.terms c.args.evaluation.now.ids c.args.evaluation.now.shapes c.args.pairs.now c.new-checked.result.items c.new-checked.ensures.items;
  looks = no_looks_yet c.args.evaluation.now.terms c.args.evaluation.now.ids c.args.evaluation.now.shapes c.args.pairs.now c.args.footprint.now;
  steps = no_steps_yet c.args.evaluation.now.terms c.args.evaluation.now.ids c.args.evaluation.now.shapes c.args.pairs.now c.args.steps.now;
  counted = omega arith;
}

pub checked_rows-requires : goal.checked_rows-requires
checked_rows-requires g c =
    let ps = c.args.pairs.now in
    let i = c.loop-pair.pair-index in
    let less : i < length ps = omega (arith, c.loop-pair-test.true) in
    c.requires (get_or ps i (0, 0)) (i, less, get_or_default ps i _ (0, 0) less)

pub loop-pair-preserved : goal.loop-pair-preserved
loop-pair-preserved g c =
    let terms = c.args.evaluation.now.terms in
    let ids = c.args.evaluation.now.ids in
    let shapes = c.args.evaluation.now.shapes in
    let ps = c.args.pairs.now in
    let i = c.loop-pair.pair-index in
    let less : i < length ps = omega (arith, c.loop-pair-test.true) in
    let e : ℕ × ℕ = get_or ps i (0, 0) in
    let is : e ≡ get_or ps i e = get_or_default ps i (0, 0) e less in
    let place = (c.requires e (i, less, get_or_default ps i _ (0, 0) less)).0 in
    let made = c.in_ok-rows.ensures in
    record {
      rows = next_rows terms ids shapes ps i e c.loop-pair.checked.items c.push.new.self.items c.in_ok-rows.rows less is c.in_ok-push.ensures.items c.loop-pair.invariant.rows made.pair made.rows;
      looks = next_pair_looks terms ids shapes ps i e c.args.footprint.now c.loop-pair.footprint c.checked_rows.new.footprint less is place c.loop-pair.invariant.looks made.looks;
      steps = next_steps terms ids shapes ps i e c.args.steps.now c.loop-pair.steps c.checked_rows.new.steps less is place c.loop-pair.invariant.steps made.steps;
      counted = let before = c.loop-pair.invariant.counted in let more = c.checked_rows.ensures.counted in omega (arith, before, more);
    }

pub returns : goal.returns
returns g c =
    let terms = c.args.evaluation.now.terms in
    let ids = c.args.evaluation.now.ids in
    let shapes = c.args.evaluation.now.shapes in
    let all = take_all c.loop-pair.pair-index c.args.pairs.now c.loop-pair-test.false in
    record {
      rows = subst (λ (ps : List (ℕ × ℕ)). HaveRows terms ids shapes ps c.loop-pair.checked.items) all c.loop-pair.invariant.rows;
      looks = subst (λ (ps : List (ℕ × ℕ)). AddsLooksOfPairs terms ids shapes ps c.args.footprint.now c.loop-pair.footprint) all c.loop-pair.invariant.looks;
      steps = subst (λ (ps : List (ℕ × ℕ)). StepsOfPairs terms ids shapes ps c.args.steps.now c.loop-pair.steps) all c.loop-pair.invariant.steps;
      counted = c.loop-pair.invariant.counted;
    }
