use Rattle.literal_order.proofs.OrderLemmas.{irreflexive}
use Rattle.literal_order.specs.Values.{lexical}
use Rattle.literal_order.proofs.laws.less_is_irreflexive.Goals as goal

pub returns : goal.returns
returns c = λ t. irreflexive (lexical t)
