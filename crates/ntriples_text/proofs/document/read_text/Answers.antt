use Rattle.std.specs.Str.{chars}
use Rattle.ntriples_text.proofs.Numbers.{read_all}
use Rattle.ntriples_text.proofs.document.read_text.Goals as goal

pub returns-clause-reads : goal.returns-clause-reads
returns-clause-reads c = read_all c.args.labels _ _ _ (chars c.args.text.now) c.in_ok-table.table c.read_lines.new.numbering.labels c.in_ok-table.ensures.read c.len.ensures
