use Rattle.std.specs.List.{Contains}
use Rattle.shape_model.specs.Rows.{result_row_cmp}
use Rattle.shape_model.specs.Validation.{IsResult}
use Rattle.shape_model.proofs.Listings.{listing_same}
use Rattle.plain_validation.proofs.results.listing.Goals as goal

pub returns : goal.returns
returns c = listing_same result_row_cmp (Contains c.in_ok-rows.rows.items) (IsResult c.args.graph.now c.args.shapes.now) c.in_ok-rows.ensures.members c.in_ok-listed.listed.items c.in_ok-listed.ensures
