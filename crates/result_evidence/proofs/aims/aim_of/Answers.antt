use Rattle.std.proofs.Common.{subst}
use Rattle.std.specs.Prelude.{Option}
use Rattle.result_evidence.specs.declared.aims.Aim.{Aim}
use Rattle.result_evidence.specs.Aims.{IsAnyAim}
use Rattle.result_evidence.specs.Standing.{ForEach}
use Rattle.result_evidence.proofs.LeastAims.{aim_bound, aim_least, some_gives}
use Rattle.result_evidence.proofs.aims.aim_of.Goals as goal

pub unreachable-requires : goal.unreachable-requires
unreachable-requires g c =
    let e = c.args.evaluation.now in
    some_gives e.terms e.ids e.shapes c.args.row.now c.requires.row
    (subst (λ (o : Option Aim). ForEach e.terms e.shapes (λ s. IsAnyAim e.terms e.ids e.shapes s c.args.row.now o)) c.in-None.is c.in_ok-found.ensures)

pub returns-clause-place : goal.returns-clause-place
returns-clause-place g c =
    let e = c.args.evaluation.now in
    aim_bound e.terms e.ids e.shapes c.args.row.now c.in-Some.aim
    (subst (λ (o : Option Aim). ForEach e.terms e.shapes (λ s. IsAnyAim e.terms e.ids e.shapes s c.args.row.now o)) c.in-Some.is c.in_ok-found.ensures) c.requires.row

pub returns-clause-least : goal.returns-clause-least
returns-clause-least g c =
    let e = c.args.evaluation.now in
    aim_least e.terms e.ids e.shapes c.args.row.now c.in-Some.aim
    (subst (λ (o : Option Aim). ForEach e.terms e.shapes (λ s. IsAnyAim e.terms e.ids e.shapes s c.args.row.now o)) c.in-Some.is c.in_ok-found.ensures)
