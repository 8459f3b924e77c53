use Rattle.std.proofs.Common.{◌<◌, length, string_bytes, ap, sym, arith, rules}
use Rattle.std.proofs.lemmas.Bool.{eqb-false}
use Rattle.iri_ref.specs.DotSegments.{Buffers, without_dot_segments, output_after}
use Rattle.iri_ref.proofs.Rounds.{output_after-taken, shorter-after}
use Rattle.iri_ref.proofs.dot_segments.remove_dot_segments.Goals as goal

pub loop-input-init : goal.loop-input-init
unfolding without_dot_segments
loop-input-init c = (c.utf8.path, ap (λ text. output_after (length c.args.path.now) (record { input = c.args.path.now; output = text })) c.new-output.ensures.bytes)

pub loop-input-smaller : goal.loop-input-smaller
loop-input-smaller c =
    let b : Buffers = record { input = c.loop-input.input.now; output = string_bytes c.loop-input.output } in
    let some : 0 < length c.loop-input.input.now = omega (arith, eqb-false _ 0 (sym c.loop-input-test.ensures)) in
    let after = c.in_ok-input.ensures in
    shorter-after b _ some after.0

pub loop-input-preserved : goal.loop-input-preserved
loop-input-preserved c =
    let b : Buffers = record { input = c.loop-input.input.now; output = string_bytes c.loop-input.output } in
    let some : 0 < length c.loop-input.input.now = omega (arith, eqb-false _ 0 (sym c.loop-input-test.ensures)) in
    let after = c.in_ok-input.ensures in
    (search rules, output_after-taken b _ _ _ some after.0 after.1 c.loop-input.invariant.1)
