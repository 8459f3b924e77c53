use Rattle.std.proofs.Common.{◌∙◌, List, ap, arith, subst, sym}
use Rattle.std.specs.Prelude.{Option, Some, None, if◌then◌else◌}
use Rattle.std.specs.Option.{option_or}
use Rattle.std.proofs.lemmas.List.{take_all}
use Rattle.rdf_model.specs.declared.term.Term.{Term}
use Rattle.rdf_model.specs.Matching.{same_term}
use Rattle.shape_ast.specs.declared.shape.Shape.{Shape}
use Rattle.report_writer.specs.Tables.{HasFirsts}
use Rattle.report_writer.proofs.FirstShapes.{firsts_more}
use Rattle.report_writer.proofs.tables.first_shapes.Goals as goal

pub loop-shape-preserved : goal.loop-shape-preserved
loop-shape-preserved c = λ n.
    c.in_ok-add_shape.ensures n
    ∙ ap (λ (o : Option (Shape Term)). option_or o (if same_term c.shape-item.result.node n then Some c.shape-item.result else None)) (c.loop-shape.invariant n)
    ∙ sym (firsts_more c.args.shapes.now c.loop-shape.shape-index c.shape-item.result c.loop-shape-test.true c.shape-item.is n)

pub returns : goal.returns
returns c = subst (λ (shapes : List (Shape Term)). HasFirsts shapes c.loop-shape.table) (take_all c.loop-shape.shape-index c.args.shapes.now (omega (arith, c.loop-shape-test.false))) c.loop-shape.invariant
