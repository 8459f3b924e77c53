use Rattle.iri_ref.proofs.Dots.{removes_dot_segments}
use Rattle.iri_ref.proofs.laws.dot_segments_are_removed.Goals as goal

pub returns : goal.returns
returns c = removes_dot_segments
