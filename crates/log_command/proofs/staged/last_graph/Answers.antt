use Rattle.std.proofs.Common.{◌∙◌, List, subst, sym}
use Rattle.rdf_model.specs.declared.triple.Triple.{Triple}
use Rattle.shape_rules.specs.Broken.{IsWellFormed}
use Rattle.shape_rules.proofs.Empty.{empty_well_formed}
use Rattle.log_command.proofs.LastStaged.{is_last, last_ascends, none_staged, shapes_stop_as}
use Rattle.log_command.proofs.staged.last_graph.Goals as goal

pub returns-in_ok-empty-in-None-clause-answer : goal.returns-in_ok-empty-in-None-clause-answer
returns-in_ok-empty-in-None-clause-answer g c =
    let none = none_staged c.args.records.now c.in-None.ensures in
    (subst (λ (s : List Triple). IsWellFormed s) (sym none) empty_well_formed, c.in_ok-empty-in-None.ensures ∙ sym none)

pub shapes_of-requires : goal.shapes_of-requires
shapes_of-requires g c = last_ascends c.args.records.now c.in-Some.number c.in-Some.triples.now c.requires c.in-Some.ensures

pub returns-in-Ok-clause-answer : goal.returns-in-Ok-clause-answer
returns-in-Ok-clause-answer g c =
    let last = is_last c.args.records.now c.in-Some.number c.in-Some.triples.now c.in-Some.ensures in
    (subst (λ (s : List Triple). IsWellFormed s) (sym last) c.in-Ok.ensures.answer.0, c.in-Ok.ensures.answer.1 ∙ sym last)

pub returns-in-Err-clause-answer : goal.returns-in-Err-clause-answer
returns-in-Err-clause-answer g c = shapes_stop_as c.args.records.now c.in-Some.number c.in-Some.triples.now _ _ c.in-Err.fault c.shapes_fault.result c.in-Some.ensures c.in-Err.ensures.answer c.shapes_fault.ensures
