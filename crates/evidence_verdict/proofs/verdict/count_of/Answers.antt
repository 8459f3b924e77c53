use Rattle.std.proofs.Common.{◌+◌, ◌<◌, ℕ, List, Option, length, arith, subst}
use Rattle.std.specs.Prelude.{IfSome}
use Rattle.std.specs.Borrow.{Bor}
use Rattle.rdf_model.specs.Numbers.{graph_of}
use Rattle.evidence_verdict.specs.Judging.{IsNextShown}
use Rattle.evidence_verdict.proofs.Counted.{all_shown, is_all, is_more, next_is_wrong, one_shown}
use Rattle.evidence_verdict.proofs.verdict.count_of.Goals as goal

pub returns-in-None : goal.returns-in-None
returns-in-None g c s of =
    let graph = graph_of c.args.evaluation.now.terms c.args.evaluation.now.ids in
    let n = c.loop-rest.count in
    let rest = c.loop-rest.rest.now in
    let never = subst (λ (o : Option (Bor (List ℕ))). IsNextShown graph s (n + 1) rest o) c.in-None.is (c.in_ok-found.ensures.block s of) in
    next_is_wrong graph s c.args.text.now n rest (c.loop-rest.invariant.0 s of) (is_more rest c.is_empty.result c.is_empty.ensures c.loop-rest-test.true) never

pub loop-rest-preserved : goal.loop-rest-preserved
loop-rest-preserved g c =
    let graph = graph_of c.args.evaluation.now.terms c.args.evaluation.now.ids in
    let n = c.loop-rest.count in
    let rest = c.loop-rest.rest.now in
    let shorter = subst (λ (o : Option (Bor (List ℕ))). IfSome o (λ behind. length behind.now < length rest)) c.in-Some.is c.in_ok-found.ensures.shorter in (
      λ s of. (let k = subst (λ (o : Option (Bor (List ℕ))). IsNextShown graph s (n + 1) rest o) c.in-Some.is (c.in_ok-found.ensures.block s of) in
          one_shown graph s c.args.text.now n rest (c.loop-rest.invariant.0 s of) k.0 c.in-Some.behind.now k.1 k.2),
      omega (arith, shorter, c.loop-rest.invariant.1),
    )

pub returns : goal.returns
returns g c s of =
    let graph = graph_of c.args.evaluation.now.terms c.args.evaluation.now.ids in
    let rest = c.loop-rest.rest.now in
    all_shown graph s c.args.text.now c.loop-rest.count rest (c.loop-rest.invariant.0 s of) (is_all rest c.is_empty.result c.is_empty.ensures c.loop-rest-test.false)
