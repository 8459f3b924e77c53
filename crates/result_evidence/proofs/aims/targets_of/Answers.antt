use Rattle.std.proofs.Common.{ℕ, List, IfOk, subst}
use Rattle.std.proofs.lemmas.Result.{IfOk-weaker}
use Rattle.rdf_model.specs.declared.ids.Ids.{Ids}
use Rattle.path_eval.specs.declared.instances.ClassWords.{ClassWords}
use Rattle.shape_ast.specs.declared.shape.Shape.{Shape}
use Rattle.target_nodes.specs.ShapeTargets.{AreTargets, AtShape, NumberedShapes}
use Rattle.result_evidence.proofs.aims.targets_of.Goals as goal

pub returns-clause-targets : goal.returns-clause-targets
returns-clause-targets g c =
    let e = c.args.evaluation.now in
    IfOk-weaker c.targets.result (λ found. NumberedShapes e.ids e.words e.shapes (λ terms. AtShape terms e.shapes c.args.place (λ s own. AreTargets terms e.ids s own found.items)))
    (λ found. AtShape e.terms e.shapes c.args.place (λ s own. AreTargets e.terms e.ids s own found.items))
    (λ found h. h e.terms c.recall.ensures.numbering c.recall.ensures.numbered c.recall.ensures.class_words c.recall.ensures.bound)
    (subst (λ (p : List Ids × ClassWords × List (Shape ℕ)). IfOk c.targets.result (λ found. NumberedShapes p.0 p.1 p.2 (λ terms. AtShape terms p.2 c.args.place (λ s own. AreTargets terms p.0 s own found.items))))
    (λ i. (c.graph-graph.ensures i, c.words-words.ensures i, c.bound-bound.ensures i)) c.targets.ensures.targets)
