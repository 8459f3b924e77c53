use Rattle.std.proofs.Common.{List, subst}
use Rattle.std.specs.List.{Contains}
use Rattle.collections.specs.Listings.{IsListing}
use Rattle.rdf_model.specs.declared.ids.Ids.{Ids}
use Rattle.triple_index.specs.Keys.{ids_cmp}
use Rattle.file_validation.proofs.NamedTriples.{index_of}
use Rattle.file_validation.proofs.naming.indexed.Goals as goal

pub returns : goal.returns
returns c =
    let terms = c.into_terms-names.result.0 in
    let ids = c.into_terms-names.result.1.items in
    let listed = subst (λ (found : List Ids). IsListing ids_cmp (Contains found) c.in_ok-triples.triples) c.deref.ensures.value c.in_ok-triples.ensures in
    index_of terms c.args.graph ids c.in_ok-triples.triples c.into_terms-names.ensures.numbered c.into_terms-names.ensures.graph listed.members
