use Rattle.std.proofs.Common.{◌≡◌, ◌∙◌, ◌&&◌, ℕ, List, ap, sym, subst}
use Rattle.std.specs.Prelude.{◌↔◌, IsTrue, Some, slice_get}
use Rattle.rdf_model.specs.declared.ids.Ids.{Ids}
use Rattle.rdf_model.specs.declared.triple.Triple.{Triple}
use Rattle.rdf_model.specs.Numbers.{graph_of, term_at}
use Rattle.shape_model.specs.Targets.{Target}
use Rattle.shape_model.specs.Validation.{At}
use Rattle.path_eval.specs.declared.instances.ClassWords.{ClassWords}
use Rattle.shape_ast.specs.declared.shape.Shape.{Shape}
use Rattle.shape_ast.specs.Readings.{ReadShape, named_shapes}
use Rattle.shape_ast.specs.Standing.{StandFor}
use Rattle.evidence_blocks.specs.Blocks.{Gives}
use Rattle.target_nodes.specs.ShapeTargets.{AddsTargetLooks, AtShape, IsTargetAnswer, NumberedShapes}
use Rattle.result_evidence.proofs.LeastAims.{among_results}
use Rattle.result_evidence.proofs.Looked.{all_looks}
use Rattle.evidence_verdict.proofs.Judged.{both_tests}
use Rattle.evidence_verdict.proofs.judging.gives.Goals.{then-is_target, else-is_target}
use Rattle.evidence_verdict.proofs.judging.gives.Goals as goal

pub returns-clause-gives : goal.returns-clause-gives
returns-clause-gives g c s own of at =
    let e = c.args.evaluation.now in
    let graph = graph_of e.terms e.ids in
    let focus = term_at e.terms c.args.focus in
    let told = subst (λ (p : List Ids × ClassWords × List (Shape ℕ)). NumberedShapes p.0 p.1 p.2 (λ terms. AtShape terms p.2 c.args.place (λ s own. IsTargetAnswer terms p.0 s own c.args.focus c.in_ok-is_target.is_target)))
    (λ i. (c.graph-graph.ensures i, c.words-words.ensures i, c.bound-bound.ensures i)) c.in_ok-is_target.ensures.answer in
    let target = told e.terms c.recall.ensures.numbering c.recall.ensures.numbered c.recall.ensures.class_words c.recall.ensures.bound s own of.stand at c.requires.focus in
    let row = among_results (At graph s own.node focus) c.in_ok-rows.rows.items c.as_slice.result.now c.args.row.now c.has_row-is_row.result c.has_row-is_row.ensures c.as_slice.ensures.value (c.in_ok-rows.ensures.rows s own of.stand at of.acyclic of.shallow) in
    let both : c.if-is_target.result ≡ (c.in_ok-is_target.is_target && c.has_row-is_row.result) = elim c.if-is_target.branch [
      | then-is_target w ↦ w.result-is ∙ sym (ap (λ b. b && c.has_row-is_row.result) w.if-is_target.true)
      | else-is_target w ↦ w.result-is ∙ w.if-is_target.false ∙ sym (ap (λ b. b && c.has_row-is_row.result) w.if-is_target.false)
    ] in
    subst (λ b. IsTrue b ↔ Gives graph s c.args.row.now own.node focus) (sym both)
    (both_tests (Target graph s own.node focus) (At graph s own.node focus c.args.row.now) c.in_ok-is_target.is_target c.has_row-is_row.result target row)

pub returns-clause-looks : goal.returns-clause-looks
returns-clause-looks g c =
    let e = c.args.evaluation.now in
    let told = subst (λ (p : List Ids × ClassWords × List (Shape ℕ)). NumberedShapes p.0 p.1 p.2 (λ terms. AtShape terms p.2 c.args.place (λ s own. AddsTargetLooks terms p.0 s own c.args.focus c.args.looks.now c.is_target.new.footprint)))
    (λ i. (c.graph-graph.ensures i, c.words-words.ensures i, c.bound-bound.ensures i)) c.in_ok-is_target.ensures.looks in
    let target = λ (s : List Triple) (own : ReadShape) (stand : StandFor (named_shapes e.terms e.shapes) s) (at : slice_get (named_shapes e.terms e.shapes) c.args.place ≡ Some own). told e.terms c.recall.ensures.numbering c.recall.ensures.numbered c.recall.ensures.class_words c.recall.ensures.bound s own stand at c.requires.focus in
    all_looks e.terms e.ids e.shapes c.args.place c.args.focus c.args.looks.now c.is_target.new.footprint c.eval.new.footprint target c.in_ok-rows.ensures.looks
