use Rattle.iri_ref.proofs.Marks.{boundary_at}
use Rattle.iri_ref.proofs.components.split_before_slash.Goals as goal

pub split_at-requires : goal.split_at-requires
split_at-requires c = boundary_at c.args.text.now _ _ c.as_bytes.ensures.value c.next_slash.ensures.value
