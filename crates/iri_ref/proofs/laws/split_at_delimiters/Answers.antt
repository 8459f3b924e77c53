use Rattle.iri_ref.proofs.Delimiters.{splits_at_delimiters}
use Rattle.iri_ref.proofs.laws.split_at_delimiters.Goals as goal

pub returns : goal.returns
returns c = splits_at_delimiters
