use Rattle.std.proofs.Common.{List, subst, sym}
use Rattle.rdf_model.specs.declared.ids.Ids.{Ids}
use Rattle.rdf_model.specs.Numbers.{AreNumbered}
use Rattle.random_tests.proofs.changes.listings_in.Goals as goal

pub checked_listing-checked-requires-clause-before : goal.checked_listing-checked-requires-clause-before
checked_listing-checked-requires-clause-before g c = subst (λ (ids : List Ids). AreNumbered c.args.names.now ids) (sym c.from_triples-before.ensures) c.requires.before

pub checked_listing-checked-requires-clause-later : goal.checked_listing-checked-requires-clause-later
checked_listing-checked-requires-clause-later g c = subst (λ (ids : List Ids). AreNumbered c.args.names.now ids) (sym c.from_triples-later.ensures) c.requires.later

pub checked_listing-checked-requires-clause-changed : goal.checked_listing-checked-requires-clause-changed
checked_listing-checked-requires-clause-changed g c = subst (λ (ids : List Ids). AreNumbered c.args.names.now ids) (sym c.as_slice-changed.ensures) c.requires.changed

pub listing_over-whole-requires-clause-graph : goal.listing_over-whole-requires-clause-graph
listing_over-whole-requires-clause-graph g c = subst (λ (ids : List Ids). AreNumbered c.args.names.now ids) (sym c.from_triples-later.ensures) c.requires.later

pub whole_of-requires-clause-graph : goal.whole_of-requires-clause-graph
whole_of-requires-clause-graph g c = subst (λ (ids : List Ids). AreNumbered c.args.names.now ids) (sym c.from_triples-later.ensures) c.requires.later
