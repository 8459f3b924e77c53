use Rattle.std.proofs.Common.{arith}
use Rattle.turtle_reader.proofs.NodesWithin.{gives_readable}
use Rattle.file_validation.proofs.reading.triples_of.Goals as goal

pub returns : goal.returns
returns c = record {
  read = (c.read.new.next, c.in_ok-triples.ensures.reads, omega (arith, c.read.ensures.room));
  ascending = (gives_readable c.args.text.now c.args.session 1 c.read.new.next c.in_ok-triples.triples c.in_ok-triples.ensures.reads).2;
}
