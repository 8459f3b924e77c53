use Rattle.std.proofs.Common.{List, subst}
use Rattle.rdf_model.specs.declared.triple.Triple.{Triple}
use Rattle.shape_rules.specs.Broken.{IsWellFormed}
use Rattle.std.proofs.lemmas.Result.{err_from_is_err_and}
use Rattle.shape_reader.specs.Asked.{AsksAll, AsksBeforeFault}
use Rattle.shape_reader.proofs.Requests.{all_some}
use Rattle.file_validation.proofs.reading.shapes_of.Goals as goal

pub new-requires-clause-well_formed : goal.new-requires-clause-well_formed
new-requires-clause-well_formed g c = subst (λ (ts : List Triple). IsWellFormed ts) c.as_slice.ensures c.in_ok-shapes.ensures.answer.0

pub new-requires-clause-once : goal.new-requires-clause-once
new-requires-clause-once g c = c.in_ok-shapes.ensures.once

pub returns-clause-answer : goal.returns-clause-answer
returns-clause-answer g c = (subst (λ (ts : List Triple). IsWellFormed ts) c.as_slice.ensures c.in_ok-shapes.ensures.answer.0, c.in_ok-new.ensures)

pub returns-clause-asked : goal.returns-clause-asked
returns-clause-asked g c = subst (λ (ts : List Triple). AsksAll ts (g.M.Maker.asked c.args.maker.now) (g.M.Maker.asked c.read_shapes.new.maker)) c.as_slice.ensures c.in_ok-shapes.ensures.asked

pub returns-in_err-shapes-clause-asked : goal.returns-in_err-shapes-clause-asked
returns-in_err-shapes-clause-asked g c =
    let p = err_from_is_err_and c.from_residual.result c.from_residual.ensures.1 in
    rw (p.1, p.2) (subst (λ (ts : List Triple). AsksBeforeFault ts c.in_err-shapes.field-0.0 (g.M.Maker.asked c.args.maker.now) (g.M.Maker.asked c.read_shapes.new.maker)) c.as_slice.ensures c.in_err-shapes.ensures.asked)

pub returns-in_err-new-clause-asked : goal.returns-in_err-new-clause-asked
returns-in_err-new-clause-asked g c =
    let p = err_from_is_err_and c.from_residual-in_err-new.result c.from_residual-in_err-new.ensures.1 in
    let asked = subst (λ (ts : List Triple). AsksAll ts (g.M.Maker.asked c.args.maker.now) (g.M.Maker.asked c.read_shapes.new.maker)) c.as_slice.ensures c.in_ok-shapes.ensures.asked in
    rw (p.1, p.2) (all_some _ _ _ asked)
