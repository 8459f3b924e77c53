use Rattle.std.proofs.Common.{◌<◌, ℕ, List, IfOk, length, subst, sym}
use Rattle.std.specs.List.{All}
use Rattle.std.proofs.lemmas.Result.{IfOk-weaker}
use Rattle.rdf_model.specs.declared.ids.Ids.{Ids}
use Rattle.path_eval.specs.declared.instances.ClassWords.{ClassWords}
use Rattle.shape_ast.specs.declared.shape.Shape.{Shape}
use Rattle.target_nodes.specs.ShapeTargets.{AreTargets, AtShape, NumberedShapes}
use Rattle.parallel_validate.proofs.whole_graph.targets_of.Goals as goal

pub targets-requires : goal.targets-requires
targets-requires g c = subst (λ (xs : List (Shape ℕ)). c.args.shape < length xs) (sym c.bound-bound.ensures) c.requires

pub returns-clause-targets : goal.returns-clause-targets
returns-clause-targets g c =
    let e = c.args.evaluation.now in
    IfOk-weaker c.targets.result (λ found. NumberedShapes e.ids e.words e.shapes (λ terms. AtShape terms e.shapes c.args.shape (λ s own. AreTargets terms e.ids s own found.items)))
    (λ found. AtShape e.terms e.shapes c.args.shape (λ s own. AreTargets e.terms e.ids s own found.items))
    (λ found h. h e.terms c.recall.ensures.numbering c.recall.ensures.numbered c.recall.ensures.class_words c.recall.ensures.bound)
    (subst (λ (p : List Ids × ClassWords × List (Shape ℕ)). IfOk c.targets.result (λ found. NumberedShapes p.0 p.1 p.2 (λ terms. AtShape terms p.2 c.args.shape (λ s own. AreTargets terms p.0 s own found.items))))
    (λ i. (c.graph-graph.ensures i, c.words-words.ensures i, c.bound-bound.ensures i)) c.targets.ensures.targets)

pub returns-clause-numbers : goal.returns-clause-numbers
returns-clause-numbers g c =
    let e = c.args.evaluation.now in
    IfOk-weaker c.targets.result (λ found. NumberedShapes e.ids e.words e.shapes (λ terms. All (λ n. n < length terms) found.items)) (λ found. All (λ n. n < length e.terms) found.items)
    (λ found h. h e.terms c.recall.ensures.numbering c.recall.ensures.numbered c.recall.ensures.class_words c.recall.ensures.bound)
    (subst (λ (p : List Ids × ClassWords × List (Shape ℕ)). IfOk c.targets.result (λ found. NumberedShapes p.0 p.1 p.2 (λ terms. All (λ n. n < length terms) found.items)))
    (λ i. (c.graph-graph.ensures i, c.words-words.ensures i, c.bound-bound.ensures i)) c.targets.ensures.numbers)
