use Rattle.literal_order.proofs.FormLemmas.{integer_forms}
use Rattle.literal_order.proofs.laws.integers_are_of_their_pattern.Goals as goal

pub returns : goal.returns
returns c = λ text. integer_forms text
