use Rattle.std.proofs.Common.{ℕ, List, subst}
use Rattle.rdf_model.specs.declared.ids.Ids.{Ids}
use Rattle.path_eval.specs.declared.instances.ClassWords.{ClassWords}
use Rattle.shape_ast.specs.declared.shape.Shape.{Shape}
use Rattle.target_nodes.specs.ShapeTargets.{AddsTargetLooks, AtShape, IsTargetAnswer, NumberedShapes}
use Rattle.threaded_check.proofs.Parts.{told_of}
use Rattle.threaded_check.proofs.permits.is_aim.Goals as goal

pub returns : goal.returns
returns g c =
    let e = c.args.evaluation.now in
    let n = c.args.pair.0 in
    let f = c.args.pair.1 in
    let old = c.args.footprint.now in
    let new = c.is_target.new.footprint in
    let is = c.recall.ensures in
    let answer = subst (λ (p : List Ids × ClassWords × List (Shape ℕ)). NumberedShapes p.0 p.1 p.2 (λ terms. AtShape terms p.2 n (λ s own. IsTargetAnswer terms p.0 s own f c.in_ok-aim.aim)))
    (λ i. (c.graph-graph.ensures i, c.words-words.ensures i, c.bound-bound.ensures i)) c.in_ok-aim.ensures.answer in
    let looks = subst (λ (p : List Ids × ClassWords × List (Shape ℕ)). NumberedShapes p.0 p.1 p.2 (λ terms. AtShape terms p.2 n (λ s own. AddsTargetLooks terms p.0 s own f old new)))
    (λ i. (c.graph-graph.ensures i, c.words-words.ensures i, c.bound-bound.ensures i)) c.in_ok-aim.ensures.looks in
    told_of e.terms e.ids e.words e.shapes n f c.in_ok-aim.aim old new is.numbering is.numbered is.class_words is.bound c.requires.focus answer looks
