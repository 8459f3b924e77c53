use Rattle.std.proofs.Common.{List, subst}
use Rattle.rdf_model.specs.declared.triple.Triple.{Triple}
use Rattle.shape_model.specs.Validation.{Listing}
use Rattle.shape_model.proofs.Listings.{listing_law}
use Rattle.plain_validation.proofs.rows.both_listings.Goals as goal

pub returns-clause-answer : goal.returns-clause-answer
returns-clause-answer g c =
    let read : List Triple = c.in-Ok.triples in
    let shapes : List Triple = c.in-Ok-triples_of.triples in
    let both = c.in_ok-listings.field-0 in
    record {
      graph = read;
      shapes_graph = shapes;
      data_read = c.in-Ok.ensures.read;
      shapes_read = c.in-Ok-triples_of.ensures.read;
      well_formed = c.in_ok-shapes_graph.ensures.answer.0;
      compiled = subst (λ (s : List Triple). Listing read s both.compiled) c.in_ok-shapes_graph.ensures.answer.1 (subst (λ (ts : List Triple). Listing ts c.in_ok-shapes_graph.shapes_graph both.compiled) c.as_slice.ensures c.in_ok-listings.ensures.compiled);
      plain = subst (λ (s : List Triple). Listing read s both.plain) c.in_ok-shapes_graph.ensures.answer.1 (subst (λ (ts : List Triple). Listing ts c.in_ok-shapes_graph.shapes_graph both.plain) c.as_slice.ensures c.in_ok-listings.ensures.plain);
    }

pub returns-clause-one : goal.returns-clause-one
returns-clause-one g c = listing_law _ _ _ _ c.in_ok-listings.ensures.plain c.in_ok-listings.ensures.compiled
