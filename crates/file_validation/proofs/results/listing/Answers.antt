use Rattle.std.proofs.Common.{List, subst, sym}
use Rattle.rdf_model.specs.declared.triple.Triple.{Triple}
use Rattle.rdf_model.specs.Numbers.{graph_of}
use Rattle.shape_model.specs.Validation.{Listing}
use Rattle.shape_model.specs.declared.result_row.ResultRow.{ResultRow}
use Rattle.parallel_validate.proofs.Members.{same_listing}
use Rattle.parallel_validate.specs.Named.{AreNamedTriples}
use Rattle.file_validation.proofs.Members.{in_graph}
use Rattle.file_validation.proofs.results.listing.Goals as goal

pub listing_in-requires-clause-shapes : goal.listing_in-requires-clause-shapes
listing_in-requires-clause-shapes g c κs within = subst (λ (ts : List Triple). AreNamedTriples c.in_ok-numbered.numbered.names ts) c.triples.ensures c.in_ok-numbered.ensures.named

pub returns : goal.returns
returns g c = λ graph is.
    let numbered = c.in_ok-numbered.numbered in
    let s = c.args.shapes.now in
    let same = in_graph c.args.graph.names numbered.names c.args.graph.triples numbered.triples graph c.in_ok-numbered.ensures.index is in
    subst (λ (found : List ResultRow). Listing graph s found) (sym c.from_vec.ensures)
    (same_listing (graph_of numbered.names numbered.triples) graph s same _ c.in_ok-rows.ensures)
