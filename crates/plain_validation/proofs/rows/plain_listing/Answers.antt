use Rattle.std.proofs.Common.{List, sym, subst}
use Rattle.rdf_model.specs.declared.triple.Triple.{Triple}
use Rattle.shape_model.specs.Validation.{Listing}
use Rattle.plain_values.specs.Built.{ArePatternsOf}
use Rattle.plain_values.specs.declared.built.BuiltPattern.{BuiltPattern}
use Rattle.plain_validation.proofs.rows.plain_listing.Goals as goal

pub listing-requires : goal.listing-requires
listing-requires c =
    let patterns = subst (λ (ps : List BuiltPattern). ArePatternsOf c.args.shapes.now ps) (sym c.deref.ensures.value) c.in_ok-patterns.ensures in
    subst (λ (s : List Triple). ArePatternsOf s c.deref.result.now) (sym c.triples.ensures) patterns

pub returns : goal.returns
returns c = subst (λ (s : List Triple). Listing c.args.graph.now s c.in_ok-rows.rows.items) c.triples.ensures c.in_ok-rows.ensures
