use Rattle.std.proofs.Common.{subst, sym}
use Rattle.rdf_model.specs.declared.triple.Triple.{Triple}
use Rattle.follower.specs.Numbered.{IsNamedTriple}
use Rattle.follower.proofs.misfit.add_all_having.Goals as goal

pub add_having-requires-clause-named : goal.add_having-requires-clause-named
add_having-requires-clause-named c = subst (λ (t : Triple). IsNamedTriple c.args.names.now.terms t) (sym c.triple-item.is) (c.requires.named c.loop-triple.triple-index c.triple-item.result c.loop-triple-test.true)
