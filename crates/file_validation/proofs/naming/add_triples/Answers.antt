use Rattle.std.proofs.Common.{arith, refl}
use Rattle.triple_table.proofs.Places.{grown_same, grown_twice}
use Rattle.file_validation.proofs.NamedTriples.{named_more}
use Rattle.file_validation.proofs.naming.add_triples.Goals as goal

pub loop-triple-init : goal.loop-triple-init
loop-triple-init c = record { grown = grown_same c.args.names.now c.args.names.now refl; named = λ k d l. absurd (omega arith) }

pub loop-triple-preserved : goal.loop-triple-preserved
loop-triple-preserved c = record {
  grown = grown_twice c.args.names.now c.loop-triple.names c.add_triple.new.names c.loop-triple.invariant.grown c.in_ok-add_triple.ensures.grown;
  named = named_more c.loop-triple.names c.add_triple.new.names c.args.triples.now c.loop-triple.triple-index c.triple-item.result c.in_ok-add_triple.ensures.grown c.loop-triple-test.true c.triple-item.is c.in_ok-add_triple.ensures.named c.loop-triple.invariant.named;
}

pub returns-clause-named : goal.returns-clause-named
returns-clause-named c = λ k d l. c.loop-triple.invariant.named k d (omega arith)
