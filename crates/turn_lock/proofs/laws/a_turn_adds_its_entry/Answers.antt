use Rattle.turn_lock.proofs.Added.{under_own, under_other, reserved_own, reserved_other}
use Rattle.turn_lock.proofs.laws.a_turn_adds_its_entry.Goals as goal

pub returns-clause-own : goal.returns-clause-own
returns-clause-own g c = under_own g.S.Entries.number

pub returns-clause-others : goal.returns-clause-others
returns-clause-others g c = λ history e n other. under_other g.S.Entries.number n history e other

pub returns-clause-reserved : goal.returns-clause-reserved
returns-clause-reserved g c = reserved_own g.S.Entries.number g.S.Entries.is_zero_shared

pub returns-clause-unreserved : goal.returns-clause-unreserved
returns-clause-unreserved g c = reserved_other g.S.Entries.number g.S.Entries.is_zero_shared
