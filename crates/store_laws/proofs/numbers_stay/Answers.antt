use Rattle.store_laws.proofs.Numbers.{numbers_stay}
use Rattle.store_laws.proofs.numbers_stay.Goals as goal

pub returns : goal.returns
returns c = numbers_stay
