use Rattle.literal_order.proofs.OrderLemmas.{turned}
use Rattle.literal_order.specs.Values.{lexical}
use Rattle.literal_order.proofs.laws.less_or_equal_is_not_greater.Goals as goal

pub returns : goal.returns
returns c = λ t u. turned (lexical t) (lexical u)
