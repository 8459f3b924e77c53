use Rattle.std.proofs.Common.{subst, sym}
use Rattle.rdf_model.specs.declared.triple.Triple.{Triple}
use Rattle.parallel_validate.specs.Named.{IsNamedTriple}
use Rattle.evidence_verdict.proofs.listed.push_triples.Goals as goal

pub number_triple-requires : goal.number_triple-requires
number_triple-requires g c = subst (λ (t : Triple). IsNamedTriple (g.N.Names.terms c.args.names.now) t) (sym c.triple-item.is) (c.requires.named c.loop-triple.triple-index c.triple-item.result c.loop-triple-test.true)
