use Rattle.iri_ref.proofs.Rounds.{step-shortens}
use Rattle.iri_ref.proofs.laws.dot_segments_end.Goals as goal

pub returns : goal.returns
returns c = step-shortens
