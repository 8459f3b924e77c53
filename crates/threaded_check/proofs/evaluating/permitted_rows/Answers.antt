use Rattle.std.proofs.Common.{ap, true, false}
use Rattle.std.specs.Prelude.{◌≡◌, is_some}
use Rattle.threaded_check.proofs.Parts.{no_look, no_row, some_looks, some_rows}
use Rattle.threaded_check.proofs.evaluating.permitted_rows.Goals as goal

pub returns-in_ok-eval-in-Some-clause-rows : goal.returns-in_ok-eval-in-Some-clause-rows
returns-in_ok-eval-in-Some-clause-rows g c =
    let e = c.args.evaluation.now in
    let some : is_some c.args.pair.allowed ≡ true = ap is_some c.in-Some.is in
    some_rows e.terms e.ids e.shapes c.args.pair c.requires some c.in_ok-eval-in-Some.field-0.items c.in_ok-eval-in-Some.ensures.rows

pub returns-in_ok-eval-in-Some-clause-looks : goal.returns-in_ok-eval-in-Some-clause-looks
returns-in_ok-eval-in-Some-clause-looks g c =
    let e = c.args.evaluation.now in
    let some : is_some c.args.pair.allowed ≡ true = ap is_some c.in-Some.is in
    some_looks e.terms e.ids e.shapes c.args.pair c.requires some c.args.footprint.now c.eval.new.footprint c.in_ok-eval-in-Some.ensures.looks

pub returns-in-None-clause-rows : goal.returns-in-None-clause-rows
returns-in-None-clause-rows g c =
    let e = c.args.evaluation.now in
    let none : is_some c.args.pair.allowed ≡ false = ap is_some c.in-None.is in
    no_row e.terms e.ids e.shapes c.args.pair c.requires none c.new.result.items c.new.ensures.items

pub returns-in-None-clause-looks : goal.returns-in-None-clause-looks
returns-in-None-clause-looks g c =
    let e = c.args.evaluation.now in
    let none : is_some c.args.pair.allowed ≡ false = ap is_some c.in-None.is in
    no_look e.terms e.ids e.shapes c.args.pair c.requires none c.args.footprint.now
