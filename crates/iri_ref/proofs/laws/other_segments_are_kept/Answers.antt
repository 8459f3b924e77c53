use Rattle.iri_ref.proofs.Dots.{keeps_other_segments}
use Rattle.iri_ref.proofs.laws.other_segments_are_kept.Goals as goal

pub returns : goal.returns
returns c = keeps_other_segments
