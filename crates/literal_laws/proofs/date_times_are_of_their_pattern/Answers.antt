use Rattle.literal_laws.proofs.Forms.{date_time_forms}
use Rattle.literal_laws.proofs.date_times_are_of_their_pattern.Goals as goal

pub returns : goal.returns
returns c = λ text. date_time_forms text
