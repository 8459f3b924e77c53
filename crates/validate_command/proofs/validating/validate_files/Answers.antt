use Rattle.std.proofs.Common.{arith}
use Rattle.validate_command.proofs.Stopping.{texts_stop}
use Rattle.validate_command.proofs.validating.validate_files.Goals as goal

pub validate-requires-clause-data : goal.validate-requires-clause-data
validate-requires-clause-data g c = let h = c.in-Ok.ensures.answer (g.M.Maker.refused c.args.maker.now) in omega (arith, h.0.0.1)

pub validate-requires-clause-shapes : goal.validate-requires-clause-shapes
validate-requires-clause-shapes g c = let h = c.in-Ok.ensures.answer (g.M.Maker.refused c.args.maker.now) in omega (arith, h.0.1.1)

pub returns-in-Ok-validate : goal.returns-in-Ok-validate
returns-in-Ok-validate g c =
    let h = c.in-Ok.ensures.answer (g.M.Maker.refused c.args.maker.now) in
    record { answer = (c.in-Ok.both.0.items, c.in-Ok.both.1.items, h.0, c.in-Ok-validate.ensures.answer, h.1, c.in-Ok-validate.ensures.refused) }

pub returns-in-Err-validate : goal.returns-in-Err-validate
returns-in-Err-validate g c =
    let h = c.in-Ok.ensures.answer (g.M.Maker.refused c.args.maker.now) in
    record { answer = texts_stop c.in-Err-validate.fault _ _ _ _ _ _ _ c.text_fault.ensures h.0 h.1 c.in-Err-validate.ensures.answer }
