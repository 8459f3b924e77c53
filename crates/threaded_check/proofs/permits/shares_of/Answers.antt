use Rattle.std.proofs.Common.{◌≡◌, ◌∙◌, ℕ, List, [], ◌++◌, ap, append_assoc, arith, refl, rules, subst, sym}
use Rattle.std.specs.List.{Contains}
use Rattle.std.specs.Slice.Iter.{chunks_rest}
use Rattle.std.proofs.lemmas.List.Elements.{Contains-append_left, Contains-append_right}
use Rattle.rdf_model.specs.Numbers.{graph_of}
use Rattle.parallel_validate.specs.PairsResults.{StepsOfPairs}
use Rattle.threaded_check.specs.Findings.{AddsAimLooks, AimLook}
use Rattle.threaded_check.specs.PermittedPairs.{AreAllowed, pairs_in, permitted_in}
use Rattle.threaded_check.specs.declared.pairs.PermittedPair.{PermittedPair}
use Rattle.threaded_check.proofs.Joining.{both_looks, both_permitted, both_steps, no_looks, no_steps, none_permitted}
use Rattle.threaded_check.proofs.Parts.{all_done, pairs_more, share_more}
use Rattle.threaded_check.proofs.permits.shares_of.Goals as goal

pub loop-chunk-init : goal.loop-chunk-init
loop-chunk-init g c =
    let e = c.args.evaluation.now in
    let none : permitted_in c.new-shares.result.items ≡ [] = ap permitted_in c.new-shares.ensures.items in
    let whole : chunks_rest c.into_iter-chunk-iterator.result ≡ c.args.pairs.now = search rules in
    record {
      goes_on = search rules;
      ends = tt;
      rest = ap (λ (ps : List PermittedPair). pairs_in ps ++ chunks_rest c.into_iter-chunk-iterator.result) none ∙ whole;
      allowed = subst (λ (ps : List PermittedPair). AreAllowed e.terms e.ids e.shapes ps) (sym none) (none_permitted e.terms e.ids e.shapes).allowed;
      looks = subst (λ (ps : List PermittedPair). AddsAimLooks e.terms e.ids e.shapes (pairs_in ps) c.args.footprint.now c.args.footprint.now) (sym none) (no_looks (AimLook (graph_of e.terms e.ids)) e.terms e.shapes c.args.footprint.now);
      steps = subst (λ (ps : List PermittedPair). StepsOfPairs e.terms e.ids e.shapes (pairs_in ps) c.args.steps.now c.args.steps.now) (sym none) (no_steps e.terms e.ids e.shapes c.args.steps.now);
      counted = omega arith;
    }

pub permitted_pairs-requires : goal.permitted_pairs-requires
permitted_pairs-requires g c e i =
    let done = pairs_in (permitted_in c.loop-chunk.shares.items) in
    let chunk = c.in-Some.chunk.now in
    let left = chunks_rest c.next.new.self in
    c.requires e (subst (λ (ps : List (ℕ × ℕ)). Contains ps e) (ap (λ (ps : List (ℕ × ℕ)). done ++ ps) (sym c.in-Some.ensures.steps.1.0) ∙ c.loop-chunk.invariant.rest)
    (Contains-append_right done (chunk ++ left) e (Contains-append_left chunk left e i)))

pub loop-chunk-preserved : goal.loop-chunk-preserved
loop-chunk-preserved g c =
    let e = c.args.evaluation.now in
    let shares = c.loop-chunk.shares.items in
    let chunk = c.in-Some.chunk.now in
    let left = chunks_rest c.next.new.self in
    let next = c.in_ok-next.next in
    let before = c.loop-chunk.invariant in
    let made = c.in_ok-next.ensures in
    let done = pairs_in (permitted_in shares) in
    let more = share_more shares c.push.new.self.items (record { pairs = next }) c.in_ok-push.ensures.items in
    let pairs = pairs_more (permitted_in shares) next.items (permitted_in c.push.new.self.items) chunk more made.permitted.same in
    let both = both_permitted e.terms e.ids e.shapes done chunk (permitted_in shares) next.items (record { same = refl; allowed = before.allowed }) made.permitted in
    record {
      goes_on = search rules;
      ends = tt;
      rest = ap (λ (ps : List (ℕ × ℕ)). ps ++ left) pairs ∙ (append_assoc done chunk left ∙ (ap (λ (ps : List (ℕ × ℕ)). done ++ ps) (sym c.in-Some.ensures.steps.1.0) ∙ before.rest));
      allowed = subst (λ (ps : List PermittedPair). AreAllowed e.terms e.ids e.shapes ps) (sym more) both.allowed;
      looks = subst (λ (es : List (ℕ × ℕ)). AddsAimLooks e.terms e.ids e.shapes es c.args.footprint.now c.permitted_pairs.new.footprint) (sym pairs)
          (both_looks (AimLook (graph_of e.terms e.ids)) e.terms e.shapes done chunk c.args.footprint.now c.loop-chunk.footprint c.permitted_pairs.new.footprint before.looks made.looks);
      steps = subst (λ (es : List (ℕ × ℕ)). StepsOfPairs e.terms e.ids e.shapes es c.args.steps.now c.permitted_pairs.new.steps) (sym pairs)
          (both_steps e.terms e.ids e.shapes done chunk c.args.steps.now c.loop-chunk.steps c.permitted_pairs.new.steps before.steps made.steps);
      counted = let first = before.counted in let more_steps = c.permitted_pairs.ensures.counted in omega (arith, first, more_steps);
    }

pub returns : goal.returns
returns g c =
    let e = c.args.evaluation.now in
    let found = c.loop-chunk.invariant in
    let all = all_done (pairs_in (permitted_in c.loop-chunk.shares.items)) (chunks_rest c.loop-chunk.chunk-iterator) c.args.pairs.now c.in-None.ensures.steps.1.0 found.rest in
    record {
      permitted = record { same = all; allowed = found.allowed };
      looks = subst (λ (es : List (ℕ × ℕ)). AddsAimLooks e.terms e.ids e.shapes es c.args.footprint.now c.loop-chunk.footprint) all found.looks;
      steps = subst (λ (es : List (ℕ × ℕ)). StepsOfPairs e.terms e.ids e.shapes es c.args.steps.now c.loop-chunk.steps) all found.steps;
      counted = found.counted;
    }

pub returns-in_err-next-clause-counted : goal.returns-in_err-next-clause-counted
returns-in_err-next-clause-counted g c = let before = c.loop-chunk.invariant.counted in let more = c.permitted_pairs.ensures.counted in omega (arith, before, more)

pub returns-in_err-push-clause-counted : goal.returns-in_err-push-clause-counted
returns-in_err-push-clause-counted g c = let before = c.loop-chunk.invariant.counted in let more = c.permitted_pairs.ensures.counted in omega (arith, before, more)
