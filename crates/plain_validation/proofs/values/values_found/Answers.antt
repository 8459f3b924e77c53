use Rattle.plain_validation.proofs.PathValues.{along_slice, without_path}
use Rattle.plain_validation.proofs.values.values_found.Goals as goal

pub returns-then-is_empty : goal.returns-then-is_empty
returns-then-is_empty c =
    without_path c.args.graph.now c.args.shapes.now c.args.shape.now c.args.focus.now c.in_ok-paths.paths c.in_ok-paths.ensures (c.is_empty.ensures.0 c.if-is_empty.true) c.in_ok-alone.field-0 c.in_ok-alone.ensures

pub returns : goal.returns
returns c =
    along_slice c.args.graph.now c.args.shapes.now c.args.shape.now c.args.focus.now c.in_ok-paths.paths c.as_slice.result.now c.in_ok-paths.ensures (λ e. let t = c.is_empty.ensures.1 e in cc (t, c.if-is_empty.false)) c.as_slice.ensures
    c.in_ok-found.found.items c.from_vec.result c.from_vec.ensures c.in_ok-found.ensures
