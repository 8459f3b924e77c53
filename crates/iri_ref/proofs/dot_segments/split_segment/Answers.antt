use Rattle.iri_ref.proofs.Marks.{boundary_after_first, tail_of}
use Rattle.iri_ref.proofs.dot_segments.split_segment.Goals as goal

pub split_at-requires : goal.split_at-requires
split_at-requires c = boundary_after_first c.args.input.now _ _ c.requires (tail_of c.args.input.now _ c.as_bytes.ensures.value) c.next_slash.ensures.value
