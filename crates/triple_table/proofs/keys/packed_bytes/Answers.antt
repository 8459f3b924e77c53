use Rattle.std.proofs.Common.{◌∙◌, arith}
use Rattle.triple_table.proofs.KeyOrder.{packed_fits, packed_step}
use Rattle.triple_table.proofs.keys.packed_bytes.Goals as goal

pub overflow_mul-key : goal.overflow_mul-key
overflow_mul-key c =
    let fits = packed_fits c.loop-place.place c.loop-place.key c.loop-place-test.true c.loop-place.invariant.1 in
    omega (arith, fits)

pub overflow_add-key : goal.overflow_add-key
overflow_add-key c =
    let fits = packed_fits c.loop-place.place c.loop-place.key c.loop-place-test.true c.loop-place.invariant.1 in
    omega (arith, fits, c.from.ensures, c.byte_at.type_inv)

pub loop-place-preserved : goal.loop-place-preserved
loop-place-preserved c =
    packed_step c.loop-place.place c.loop-place.key c.from.result _ c.args.bytes.now c.loop-place-test.true (c.from.ensures ∙ c.byte_at.ensures) (omega (arith, c.from.ensures, c.byte_at.type_inv)) c.loop-place.invariant
