use Rattle.std.proofs.Common.{List, subst}
use Rattle.rdf_model.specs.declared.term.Term.{Term}
use Rattle.shape_ast.specs.declared.shape.Shape.{Shape}
use Rattle.plain_validation.specs.Patterns.{AreTaken}
use Rattle.plain_validation.proofs.Taken.{are_patterns}
use Rattle.plain_validation.proofs.patterns.built_patterns.Goals as goal

pub returns : goal.returns
returns c =
    let shapes = c.shapes-compiled.result.now.shapes in
    are_patterns c.args.shapes.now shapes c.in_ok-patterns.patterns.items c.shapes-compiled.ensures.shapes
    (subst (λ (xs : List (Shape Term)). AreTaken xs xs c.in_ok-patterns.patterns.items) c.as_slice.ensures c.in_ok-patterns.ensures)
