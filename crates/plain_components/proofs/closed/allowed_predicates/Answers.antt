use Rattle.plain_components.proofs.Closings.{allowed_found}
use Rattle.plain_components.proofs.closed.allowed_predicates.Goals as goal

pub returns : goal.returns
returns c =
    allowed_found c.args.shapes.now c.args.shape.now c.in_ok-properties.properties c.as_slice.result.now c.in_ok-paths.paths.items c.as_slice-2.result.now c.in_ok-chosen.field-0 c.in_ok-heads.heads c.as_slice-3.result.now c.in_ok-ignored.ignored.items c.into_vec-allowed.result.items c.append.new.self.items
    c.in_ok-properties.ensures c.as_slice.ensures c.in_ok-paths.ensures c.as_slice-2.ensures.value c.in_ok-chosen.ensures c.into_vec-allowed.ensures c.in_ok-heads.ensures c.as_slice-3.ensures c.in_ok-ignored.ensures c.in_ok-append.ensures.items
