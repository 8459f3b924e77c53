use Rattle.literal_laws.proofs.Forms.{date_forms}
use Rattle.literal_laws.proofs.dates_are_of_their_pattern.Goals as goal

pub returns : goal.returns
returns c = λ text. date_forms text
