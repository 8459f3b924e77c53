use Rattle.std.proofs.Common.{arith}
use Rattle.file_validation.proofs.reading.table_of.Goals as goal

pub returns : goal.returns
returns c = (c.read_numbered.new.next, c.in_ok-table.ensures.reads, omega (arith, c.read_numbered.ensures.room))
