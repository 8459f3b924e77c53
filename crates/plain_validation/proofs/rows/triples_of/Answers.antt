use Rattle.ntriples_text.proofs.Gives.{gives_readable}
use Rattle.plain_validation.proofs.Sizes.{few_triples}
use Rattle.plain_validation.proofs.rows.triples_of.Goals as goal

pub returns : goal.returns
returns c = record {
  read = (c.read.new.next, c.in_ok-triples.ensures.reads);
  few = few_triples c.args.text.now c.args.session 1 c.read.new.next c.in_ok-triples.triples c.in_ok-triples.ensures.reads;
  ascending = (gives_readable c.args.text.now c.args.session 1 c.read.new.next c.in_ok-triples.triples c.in_ok-triples.ensures.reads).2;
}
