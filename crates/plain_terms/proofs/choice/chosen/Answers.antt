use Rattle.std.proofs.Common.{◌≡◌, [], ◌∷◌}
use Rattle.plain_terms.proofs.FoundItems.{chosen_items, no_result, one_result, some_all, some_skip, some_step}
use Rattle.plain_terms.proofs.choice.chosen.Goals as goal
use Rattle.plain_terms.proofs.choice.chosen.Goals.{then-passes+in_ok-clone+in_ok-push, else-passes}

pub loop-term-preserved : goal.loop-term-preserved
loop-term-preserved g c =
    let A = g.T.TermTest.accepts c.args.test.now in
    let x = c.term-item.result in
    elim c.if-passes.branch [
      | then-passes+in_ok-clone+in_ok-push w ↦ rw w.found-is (some_step (λ x y. A x × (y ≡ x)) c.args.terms.now c.loop-term.term-index x c.loop-term.found (w.in_ok-clone.field-0 ∷ []) w.push.new.self
          c.loop-term-test.true c.term-item.is w.in_ok-push.ensures.ok c.loop-term.invariant (one_result (A x) w.in_ok-clone.field-0 x (c.passes.ensures.0 w.if-passes.true) w.in_ok-clone.ensures.cases))
      | else-passes w ↦ rw w.found-is (some_skip (λ x y. A x × (y ≡ x)) c.args.terms.now c.loop-term.term-index x c.loop-term.found
          c.loop-term-test.true c.term-item.is (no_result (A x) x (λ a. let t = c.passes.ensures.1 a in cc (t, w.if-passes.false))) c.loop-term.invariant)
    ]

pub returns : goal.returns
returns g c =
    let A = g.T.TermTest.accepts c.args.test.now in
    chosen_items A c.args.terms.now c.loop-term.found (some_all (λ x y. A x × (y ≡ x)) c.args.terms.now c.loop-term.term-index c.loop-term.found c.loop-term-test.false c.loop-term.invariant)
