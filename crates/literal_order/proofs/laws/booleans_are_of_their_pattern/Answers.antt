use Rattle.literal_order.proofs.FormLemmas.{boolean_forms}
use Rattle.literal_order.proofs.laws.booleans_are_of_their_pattern.Goals as goal

pub returns : goal.returns
returns c = λ text. boolean_forms text
