use Rattle.std.proofs.Common.{List, arith, sym, subst}
use Rattle.rdf_model.specs.declared.ids.Ids.{Ids}
use Rattle.rdf_model.specs.Numbers.{graph_of}
use Rattle.std.specs.Prelude.{◌↔◌}
use Rattle.std.specs.List.{Contains}
use Rattle.shape_model.specs.declared.result_row.ResultRow.{ResultRow}
use Rattle.shape_model.specs.Validation.{Listing}
use Rattle.parallel_validate.proofs.Members.{index_members, index_numbered, same_count, same_listing}
use Rattle.parallel_validate.proofs.NoShapes.{no_pairs, no_shapes}
use Rattle.parallel_validate.proofs.validation.listing.Goals as goal

pub returns-then-is_without_shapes : goal.returns-then-is_without_shapes
returns-then-is_without_shapes g c =
    let s = c.args.shapes.now in
    let none = c.is_without_shapes.ensures.0 c.if-is_without_shapes.true in
    record {
      rows = subst (λ (rows : List ResultRow). Listing c.args.graph.now s rows) (sym c.new.ensures.items) (no_shapes c.args.graph.now s none);
      steps = no_pairs c.args.graph.now s none c.args.steps.now;
      counted = omega arith;
    }

pub listing_over-requires-clause-graph : goal.listing_over-requires-clause-graph
listing_over-requires-clause-graph g c =
    let terms = g.N.Names.terms c.args.names.now in
    let index = c.in_ok-index.index in
    index_numbered terms c.in_ok-ids.ids index c.in_ok-ids.ensures.0 (λ i. subst (λ (is : List Ids). Contains index i ↔ Contains is i) c.as_slice.ensures (c.in_ok-index.ensures.members i))

pub returns-clause-rows : goal.returns-clause-rows
returns-clause-rows g c =
    let terms = g.N.Names.terms c.args.names.now in
    let index = c.in_ok-index.index in
    let same = λ (i : Ids). subst (λ (is : List Ids). Contains index i ↔ Contains is i) c.as_slice.ensures (c.in_ok-index.ensures.members i) in
    same_listing (graph_of terms index) c.args.graph.now c.args.shapes.now (index_members terms c.in_ok-ids.ids index c.args.graph.now c.in_ok-ids.ensures.1 same) _ c.in_ok-listing_over.ensures.rows

pub returns-clause-steps : goal.returns-clause-steps
returns-clause-steps g c =
    let terms = g.N.Names.terms c.args.names.now in
    let index = c.in_ok-index.index in
    let same = λ (i : Ids). subst (λ (is : List Ids). Contains index i ↔ Contains is i) c.as_slice.ensures (c.in_ok-index.ensures.members i) in
    same_count (graph_of terms index) c.args.graph.now c.args.shapes.now (index_members terms c.in_ok-ids.ids index c.args.graph.now c.in_ok-ids.ensures.1 same) c.args.steps.now c.listing_over.new.steps c.in_ok-listing_over.ensures.steps
