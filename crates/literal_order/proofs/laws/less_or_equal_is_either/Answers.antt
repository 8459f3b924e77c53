use Rattle.literal_order.proofs.OrderLemmas.{either}
use Rattle.literal_order.specs.Values.{lexical}
use Rattle.literal_order.proofs.laws.less_or_equal_is_either.Goals as goal

pub returns : goal.returns
returns c = λ t u. either (lexical t) (lexical u)
