use Rattle.std.proofs.Common.{arith}
use Rattle.validate_command.proofs.ThreeFiles.{texts_stop}
use Rattle.validate_command.proofs.verifying.verify_files.Goals as goal

pub verify-requires-clause-data : goal.verify-requires-clause-data
verify-requires-clause-data g c = let h = c.in-Ok.ensures (g.M.Maker.refused c.args.maker.now) in rw c.deref.ensures.value (omega (arith, h.0.0.0.1))

pub verify-requires-clause-shapes : goal.verify-requires-clause-shapes
verify-requires-clause-shapes g c = let h = c.in-Ok.ensures (g.M.Maker.refused c.args.maker.now) in rw c.deref-2.ensures.value (omega (arith, h.0.0.1.1))

pub verify-requires-clause-evidence : goal.verify-requires-clause-evidence
verify-requires-clause-evidence g c = let h = c.in-Ok.ensures (g.M.Maker.refused c.args.maker.now) in rw c.deref-3.ensures.value (omega (arith, h.0.1.1))

pub returns-in-Ok-verify : goal.returns-in-Ok-verify
returns-in-Ok-verify g c =
    let h = c.in-Ok.ensures (g.M.Maker.refused c.args.maker.now) in
    record { answer = (_, _, _, h.0, rw c.deref-3.ensures.value at rw c.deref-2.ensures.value at rw c.deref.ensures.value at c.in-Ok-verify.ensures.answer, h.1, c.in-Ok-verify.ensures.refused) }

pub returns : goal.returns
returns g c =
    let h = c.in-Ok.ensures (g.M.Maker.refused c.args.maker.now) in
    record { answer = texts_stop _ _ _ _ c.in-Err-verify.fault _ _ _ c.text_fault.ensures h.0.0 h.1 (rw c.deref-2.ensures.value at rw c.deref.ensures.value at c.in-Err-verify.ensures.answer) }
