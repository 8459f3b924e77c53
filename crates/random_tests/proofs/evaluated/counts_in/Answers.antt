use Rattle.std.proofs.Common.{List, subst, sym}
use Rattle.rdf_model.specs.declared.ids.Ids.{Ids}
use Rattle.rdf_model.specs.Numbers.{AreNumbered}
use Rattle.random_tests.proofs.evaluated.counts_in.Goals as goal

pub check-requires-clause-before : goal.check-requires-clause-before
check-requires-clause-before g c = subst (λ (ids : List Ids). AreNumbered c.args.names.now ids) (sym c.from_triples-before.ensures) c.requires.before

pub check-requires-clause-later : goal.check-requires-clause-later
check-requires-clause-later g c = subst (λ (ids : List Ids). AreNumbered c.args.names.now ids) (sym c.from_triples-later.ensures) c.requires.later

pub check-requires-clause-changed : goal.check-requires-clause-changed
check-requires-clause-changed g c = subst (λ (ids : List Ids). AreNumbered c.args.names.now ids) (sym c.as_slice-changed.ensures) c.requires.changed
