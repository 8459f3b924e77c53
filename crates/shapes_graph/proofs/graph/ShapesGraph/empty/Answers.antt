use Rattle.std.proofs.Common.{List, [], sym, subst}
use Rattle.rdf_model.specs.declared.triple.Triple.{Triple}
use Rattle.shape_ast.specs.declared.shape.Shape.{Shape}
use Rattle.rdf_model.specs.declared.term.Term.{Term}
use Rattle.shape_ast.specs.Once.{AreOnce}
use Rattle.shape_ast.specs.Standing.{AreCompiled}
use Rattle.shape_rules.specs.Broken.{IsWellFormed}
use Rattle.shape_rules.proofs.Empty.{empty_well_formed}
use Rattle.shapes_graph.proofs.Empty.{empty_compiled, empty_once}
use Rattle.shapes_graph.proofs.graph.ShapesGraph.empty.Goals as goal

pub new-requires-3-clause-well_formed : goal.new-requires-3-clause-well_formed
new-requires-3-clause-well_formed c = subst (λ (s : List Triple). IsWellFormed s) (sym c.new.ensures) empty_well_formed

pub new-requires-3-clause-shapes : goal.new-requires-3-clause-shapes
new-requires-3-clause-shapes c =
    subst (λ (s : List Triple). AreCompiled c.new-2.result s) (sym c.new.ensures) (subst (λ (shapes : List (Shape Term)). AreCompiled shapes []) (sym c.new-2.ensures) empty_compiled)

pub new-requires-3-clause-once : goal.new-requires-3-clause-once
new-requires-3-clause-once c = subst (λ (shapes : List (Shape Term)). AreOnce shapes) (sym c.new-2.ensures) empty_once
