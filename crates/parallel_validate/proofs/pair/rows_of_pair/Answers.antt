use Rattle.std.proofs.Common.{ℕ, Bool, List, true, false, subst, arith}
use Rattle.rdf_model.specs.declared.ids.Ids.{Ids}
use Rattle.path_eval.specs.declared.instances.ClassWords.{ClassWords}
use Rattle.shape_ast.specs.declared.shape.Shape.{Shape}
use Rattle.target_nodes.specs.ShapeTargets.{AddsTargetLooks, AtShape, IsTargetAnswer, NumberedShapes}
use Rattle.parallel_validate.specs.PairResults.{TellsTarget}
use Rattle.parallel_validate.proofs.PairParts.{all_looks, no_rows, no_step, one_step, some_rows, target_looks, told_of}
use Rattle.parallel_validate.proofs.pair.rows_of_pair.Goals as goal

pub returns-then-not-aim : goal.returns-then-not-aim
returns-then-not-aim g c =
    let e = c.args.evaluation.now in
    let n = c.args.pair.0 in
    let f = c.args.pair.1 in
    let old = c.args.footprint.now in
    let mid = c.is_target.new.footprint in
    let is = c.recall.ensures in
    let answer = subst (λ (p : List Ids × ClassWords × List (Shape ℕ)). NumberedShapes p.0 p.1 p.2 (λ terms. AtShape terms p.2 n (λ s own. IsTargetAnswer terms p.0 s own f c.in_ok-aim.aim)))
    (λ i. (c.graph-graph.ensures i, c.words-words.ensures i, c.bound-bound.ensures i)) c.in_ok-aim.ensures.answer in
    let looks = subst (λ (p : List Ids × ClassWords × List (Shape ℕ)). NumberedShapes p.0 p.1 p.2 (λ terms. AtShape terms p.2 n (λ s own. AddsTargetLooks terms p.0 s own f old mid)))
    (λ i. (c.graph-graph.ensures i, c.words-words.ensures i, c.bound-bound.ensures i)) c.in_ok-aim.ensures.looks in
    let told : TellsTarget e.terms e.ids e.shapes n f false old mid = subst (λ (b : Bool). TellsTarget e.terms e.ids e.shapes n f b old mid) c.if-not-aim.true
    (told_of e.terms e.ids e.words e.shapes n f c.in_ok-aim.aim old mid is.numbering is.numbered is.class_words is.bound c.requires.focus answer looks) in
    record {
      rows = no_rows e.terms e.ids e.shapes n f old mid told c.new.result.items c.new.ensures.items;
      looks = target_looks e.terms e.ids e.shapes n f old mid told;
      steps = no_step e.terms e.ids e.shapes n f old mid told c.args.steps.now;
      counted = omega arith;
    }

pub returns : goal.returns
returns g c =
    let e = c.args.evaluation.now in
    let n = c.args.pair.0 in
    let f = c.args.pair.1 in
    let old = c.args.footprint.now in
    let mid = c.is_target.new.footprint in
    let is = c.recall.ensures in
    let answer = subst (λ (p : List Ids × ClassWords × List (Shape ℕ)). NumberedShapes p.0 p.1 p.2 (λ terms. AtShape terms p.2 n (λ s own. IsTargetAnswer terms p.0 s own f c.in_ok-aim.aim)))
    (λ i. (c.graph-graph.ensures i, c.words-words.ensures i, c.bound-bound.ensures i)) c.in_ok-aim.ensures.answer in
    let looks = subst (λ (p : List Ids × ClassWords × List (Shape ℕ)). NumberedShapes p.0 p.1 p.2 (λ terms. AtShape terms p.2 n (λ s own. AddsTargetLooks terms p.0 s own f old mid)))
    (λ i. (c.graph-graph.ensures i, c.words-words.ensures i, c.bound-bound.ensures i)) c.in_ok-aim.ensures.looks in
    let told : TellsTarget e.terms e.ids e.shapes n f true old mid = subst (λ (b : Bool). TellsTarget e.terms e.ids e.shapes n f b old mid) c.if-not-aim.false
    (told_of e.terms e.ids e.words e.shapes n f c.in_ok-aim.aim old mid is.numbering is.numbered is.class_words is.bound c.requires.focus answer looks) in
    record {
      rows = some_rows e.terms e.ids e.shapes n f old mid told c.in_ok-rows.rows.items c.in_ok-rows.ensures.rows;
      looks = all_looks e.terms e.ids e.shapes n f old mid told c.eval.new.footprint c.in_ok-rows.ensures.looks;
      steps = one_step e.terms e.ids e.shapes n f old mid told c.args.steps.now c.permit-allowed.new.steps c.permit-allowed.ensures;
      counted = let e = c.permit-allowed.ensures in omega (arith, e);
    }
