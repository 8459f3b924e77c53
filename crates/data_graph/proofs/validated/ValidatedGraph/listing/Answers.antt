use Rattle.std.specs.Prelude.{IfOk}
use Rattle.std.proofs.Common.{subst}
use Rattle.std.proofs.lemmas.Result.{IfOk-weaker}
use Rattle.collections.specs.Listings.{IsListing}
use Rattle.shape_model.specs.Rows.{result_row_cmp}
use Rattle.shape_model.specs.Validation.{Listing}
use Rattle.kept_rows.specs.Kept.{IsRowOf}
use Rattle.kept_rows.proofs.Merged.{listing_law}
use Rattle.data_graph.specs.DataGraphs.{NamedGraph}
use Rattle.data_graph.proofs.validated.ValidatedGraph.listing.Goals as goal

pub returns : goal.returns
returns c =
    let d = c.self.inside.graph in
    let kept = c.self.inside.rows in
    let own : IfOk c.listing.result (λ rows. Listing d.triples d.shapes rows.items) =
    IfOk-weaker c.listing.result (λ rows. IsListing result_row_cmp (IsRowOf kept) rows.items) (λ rows. Listing d.triples d.shapes rows.items)
    (λ rows h. listing_law d.terms d.triples d.shapes kept rows.items c.self.invariant h) c.listing.ensures in
    subst (λ (e : NamedGraph). IfOk c.listing.result (λ rows. Listing e.triples e.shapes rows.items)) c.self.view_is own
