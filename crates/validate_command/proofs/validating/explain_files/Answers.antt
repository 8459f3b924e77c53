use Rattle.std.proofs.Common.{arith}
use Rattle.validate_command.proofs.Stopping.{texts_stop}
use Rattle.validate_command.proofs.validating.explain_files.Goals as goal

pub explain-requires-clause-data : goal.explain-requires-clause-data
explain-requires-clause-data g c = let h = c.in-Ok.ensures.answer (g.M.Maker.refused c.args.maker.now) in rw c.deref.ensures.value (omega (arith, h.0.0.1))

pub explain-requires-clause-shapes : goal.explain-requires-clause-shapes
explain-requires-clause-shapes g c = let h = c.in-Ok.ensures.answer (g.M.Maker.refused c.args.maker.now) in rw c.deref-2.ensures.value (omega (arith, h.0.1.1))

pub returns-in-Ok-explain : goal.returns-in-Ok-explain
returns-in-Ok-explain g c =
    let h = c.in-Ok.ensures.answer (g.M.Maker.refused c.args.maker.now) in
    record { answer = (c.in-Ok.both.0.items, c.in-Ok.both.1.items, h.0, rw c.deref-2.ensures.value at rw c.deref.ensures.value at c.in-Ok-explain.ensures.answer, h.1, c.in-Ok-explain.ensures.refused) }

pub returns : goal.returns
returns g c =
    let h = c.in-Ok.ensures.answer (g.M.Maker.refused c.args.maker.now) in
    record { answer = texts_stop c.in-Err-explain.fault _ _ _ _ _ _ _ c.text_fault.ensures h.0 h.1 (rw c.deref-2.ensures.value at rw c.deref.ensures.value at c.in-Err-explain.ensures.answer) }
