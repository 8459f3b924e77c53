use Rattle.std.proofs.Common.{ℕ, List, subst}
use Rattle.rdf_model.specs.declared.ids.Ids.{Ids}
use Rattle.path_eval.specs.declared.instances.ClassWords.{ClassWords}
use Rattle.shape_ast.specs.declared.shape.Shape.{Shape}
use Rattle.target_nodes.specs.ShapeTargets.{AddsTargetLooks, AtShape, NumberedShapes}
use Rattle.result_evidence.proofs.looks.target_looks.Goals as goal

pub returns : goal.returns
returns g c s own stand at =
    let e = c.args.evaluation.now in
    let k = subst (λ (p : List Ids × ClassWords × List (Shape ℕ)). NumberedShapes p.0 p.1 p.2 (λ terms. AtShape terms p.2 c.args.place (λ s own. AddsTargetLooks terms p.0 s own c.args.focus c.args.looks.now c.is_target.new.footprint)))
    (λ i. (c.graph-graph.ensures i, c.words-words.ensures i, c.bound-bound.ensures i)) c.in_ok-is_target.ensures.looks in
    k e.terms c.recall.ensures.numbering c.recall.ensures.numbered c.recall.ensures.class_words c.recall.ensures.bound s own stand at c.requires.focus
