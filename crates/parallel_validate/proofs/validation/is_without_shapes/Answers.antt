use Rattle.std.proofs.Common.{◌∙◌, List, sym, subst}
use Rattle.rdf_model.specs.declared.term.Term.{Term}
use Rattle.shape_ast.specs.declared.shape.Shape.{Shape}
use Rattle.shape_ast.specs.Readings.{read_shapes}
use Rattle.shape_ast.specs.Standing.{StandFor}
use Rattle.parallel_validate.proofs.NoShapes.{none_compiled, none_stand}
use Rattle.parallel_validate.proofs.validation.is_without_shapes.Goals as goal

pub returns : goal.returns
returns c =
    let s = c.args.shapes.now in
    let is = c.as_slice.ensures in
    let stand = c.shapes.ensures.shapes.stand in (
      λ t. none_stand s (subst (λ (all : List (Shape Term)). StandFor (read_shapes all) s) (sym is ∙ c.is_nothing.ensures.0 t) stand),
      λ none. c.is_nothing.ensures.1 (is ∙ none_compiled s _ stand none),
    )
