use Rattle.turn_lock.proofs.Reserved as reserved
use Rattle.turn_lock.proofs.laws.may_still_add.Goals as goal

pub returns : goal.returns
returns g c = reserved.may_still_add g.S.Entries.number g.S.Entries.is_zero_shared
