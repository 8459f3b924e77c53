use Rattle.std.proofs.Common.{List, subst}
use Rattle.rdf_model.specs.declared.triple.Triple.{Triple}
use Rattle.shape_rules.specs.Broken.{IsWellFormed}
use Rattle.plain_validation.proofs.rows.shapes_of.Goals as goal

pub new-requires-clause-well_formed : goal.new-requires-clause-well_formed
new-requires-clause-well_formed g c = subst (λ (s : List Triple). IsWellFormed s) c.as_slice.ensures c.in_ok-shapes.ensures.answer.0

pub new-requires-clause-once : goal.new-requires-clause-once
new-requires-clause-once g c = c.in_ok-shapes.ensures.once

pub returns-clause-answer : goal.returns-clause-answer
returns-clause-answer g c = (subst (λ (s : List Triple). IsWellFormed s) c.as_slice.ensures c.in_ok-shapes.ensures.answer.0, c.in_ok-new.ensures)
