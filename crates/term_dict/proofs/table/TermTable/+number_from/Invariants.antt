use Rattle.std.proofs.Common.{◌-◌, length}
use Rattle.term_dict.proofs.table.TermTable.+number_from.Given as goal

abbrev pub decreases-number_from : goal.decreases-number_from
decreases-number_from l = length l.self.now - l.from
