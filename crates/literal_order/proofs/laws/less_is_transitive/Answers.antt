use Rattle.literal_order.proofs.OrderLemmas.{transitive}
use Rattle.literal_order.specs.Values.{lexical}
use Rattle.literal_order.proofs.laws.less_is_transitive.Goals as goal

pub returns : goal.returns
returns c = λ t u v. transitive (lexical t) (lexical u) (lexical v)
