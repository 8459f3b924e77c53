use Rattle.std.proofs.Common.{◌≡◌, ◌+◌, ◌<◌, ℕ, List, [], ◌∷◌, ◌++◌, length, get_or, take, arith, subst, sym}
use Rattle.std.proofs.lemmas.List.{get_or_default, take_all, take_more}
use Rattle.parallel_validate.specs.PairsResults.{StepsOfPairs}
use Rattle.threaded_check.specs.Findings.{AddsAimLooks, AimLook}
use Rattle.rdf_model.specs.Numbers.{graph_of}
use Rattle.threaded_check.specs.PermittedPairs.{ArePermitted}
use Rattle.threaded_check.specs.declared.pairs.PermittedPair.{PermittedPair}
use Rattle.threaded_check.proofs.Joining.{both_looks, both_permitted, both_steps, no_looks, no_steps, none_permitted}
use Rattle.threaded_check.proofs.permits.permitted_pairs.Goals as goal

pub loop-pair-init : goal.loop-pair-init
loop-pair-init g c =
    let e = c.args.evaluation.now in
    record {
      permitted = subst (λ (ps : List PermittedPair). ArePermitted e.terms e.ids e.shapes [] ps) (sym c.in_ok-allowed.ensures.items) (none_permitted e.terms e.ids e.shapes);
      looks = no_looks (AimLook (graph_of e.terms e.ids)) e.terms e.shapes c.args.footprint.now;
      steps = no_steps e.terms e.ids e.shapes c.args.steps.now;
      counted = omega arith;
    }

pub permitted-requires : goal.permitted-requires
permitted-requires g c =
    let ps = c.args.pairs.now in
    let i = c.loop-pair.pair-index in
    let less : i < length ps = omega (arith, c.loop-pair-test.true) in
    c.requires (get_or ps i (0, 0)) (i, less, get_or_default ps i _ (0, 0) less)

pub loop-pair-preserved : goal.loop-pair-preserved
loop-pair-preserved g c =
    let e = c.args.evaluation.now in
    let ps = c.args.pairs.now in
    let i = c.loop-pair.pair-index in
    let less : i < length ps = omega (arith, c.loop-pair-test.true) in
    let pair : ℕ × ℕ = get_or ps i (0, 0) in
    let one : take i ps ++ pair ∷ [] ≡ take (i + 1) ps = sym (take_more ps i (0, 0) less) in
    let before = c.loop-pair.invariant in
    let made = c.in_ok-next.ensures in
    record {
      permitted = subst (λ (p : List (ℕ × ℕ) × List PermittedPair). ArePermitted e.terms e.ids e.shapes p.0 p.1) (λ j. (one j, sym c.in_ok-push.ensures.items j))
          (both_permitted e.terms e.ids e.shapes (take i ps) (pair ∷ []) c.loop-pair.allowed.items (c.in_ok-next.next ∷ []) before.permitted made.permitted);
      looks = subst (λ (es : List (ℕ × ℕ)). AddsAimLooks e.terms e.ids e.shapes es c.args.footprint.now c.permitted.new.footprint) one
          (both_looks (AimLook (graph_of e.terms e.ids)) e.terms e.shapes (take i ps) (pair ∷ []) c.args.footprint.now c.loop-pair.footprint c.permitted.new.footprint before.looks made.looks);
      steps = subst (λ (es : List (ℕ × ℕ)). StepsOfPairs e.terms e.ids e.shapes es c.args.steps.now c.permitted.new.steps) one
          (both_steps e.terms e.ids e.shapes (take i ps) (pair ∷ []) c.args.steps.now c.loop-pair.steps c.permitted.new.steps before.steps made.steps);
      counted = let first = before.counted in let more = c.permitted.ensures.counted in omega (arith, first, more);
    }

pub returns : goal.returns
returns g c =
    let e = c.args.evaluation.now in
    let all = take_all c.loop-pair.pair-index c.args.pairs.now c.loop-pair-test.false in
    let found = c.loop-pair.invariant in
    record {
      permitted = subst (λ (ps : List (ℕ × ℕ)). ArePermitted e.terms e.ids e.shapes ps c.loop-pair.allowed.items) all found.permitted;
      looks = subst (λ (ps : List (ℕ × ℕ)). AddsAimLooks e.terms e.ids e.shapes ps c.args.footprint.now c.loop-pair.footprint) all found.looks;
      steps = subst (λ (ps : List (ℕ × ℕ)). StepsOfPairs e.terms e.ids e.shapes ps c.args.steps.now c.loop-pair.steps) all found.steps;
      counted = found.counted;
    }
