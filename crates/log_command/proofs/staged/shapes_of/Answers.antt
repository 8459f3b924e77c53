use Rattle.std.proofs.Common.{List, rules, subst, sym}
use Rattle.rdf_model.specs.declared.triple.Triple.{Triple}
use Rattle.shape_rules.specs.Broken.{IsWellFormed}
use Rattle.shape_ast.specs.Standing.{AreCompiled}
use Rattle.log_command.proofs.staged.shapes_of.Goals as goal

pub new-requires-clause-well_formed : goal.new-requires-clause-well_formed
new-requires-clause-well_formed g c = subst (λ (ts : List Triple). IsWellFormed ts) (sym c.in_ok-triples.ensures) c.in_ok-shapes.ensures.answer.0

pub new-requires-clause-shapes : goal.new-requires-clause-shapes
new-requires-clause-shapes g c = subst (λ (ts : List Triple). AreCompiled c.in_ok-shapes.shapes.shapes ts) (sym c.in_ok-triples.ensures) c.in_ok-shapes.ensures.answer.1

pub returns-clause-answer : goal.returns-clause-answer
returns-clause-answer g c = (c.in_ok-shapes.ensures.answer.0, search rules)
