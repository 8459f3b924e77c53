use Rattle.literal_order.proofs.FormLemmas.{decimal_forms}
use Rattle.literal_order.proofs.laws.decimals_are_of_their_pattern.Goals as goal

pub returns : goal.returns
returns c = λ text. decimal_forms text
