use Rattle.iri_ref.proofs.Characters.{keeps_characters}
use Rattle.iri_ref.proofs.laws.resolve_keeps_characters.Goals as goal

pub returns : goal.returns
returns c = keeps_characters
