use Rattle.std.proofs.Common.{◌-◌, List, subst, sym, arith}
use Rattle.std.specs.List.{Contains}
use Rattle.collections.specs.Ordered.{IsAscending}
use Rattle.rdf_model.specs.Terms.{term_cmp}
use Rattle.rdf_model.specs.declared.term.Term.{Term}
use Rattle.shape_model.specs.Readings.{ValueNode, reading}
use Rattle.plain_terms.specs.Finds.{WithSome}
use Rattle.plain_terms.proofs.FoundItems.{finds_at, some_all, some_step}
use Rattle.plain_validation.specs.References.{ToldAt}
use Rattle.plain_validation.proofs.Levels.{level_found, listing_at, none_at, told_found}
use Rattle.plain_validation.proofs.evaluation.+evaluation.Goals as goal

pub told_by-loop-node-preserved : goal.told_by-loop-node-preserved
told_by-loop-node-preserved t c =
    let g = c.args.graph.now in
    let s = c.args.shapes.now in
    let m = c.args.shape.now in
    let v = c.node-item.result in
    some_step (ToldAt c.args.levels g s m) c.args.nodes.now c.loop-node.node-index v c.loop-node.told.items c.in_ok-more.more.items c.append.new.self.items c.loop-node-test.true c.node-item.is c.in_ok-append.ensures.items c.loop-node.invariant
    (told_found g s c.args.levels m v c.in_ok-rows.rows.items c.deref.result.now c.in_ok-more.more.items c.in_ok-rows.ensures c.deref.ensures.value c.in_ok-more.ensures)

pub told_by-returns : goal.told_by-returns
told_by-returns t c = some_all (ToldAt c.args.levels c.args.graph.now c.args.shapes.now c.args.shape.now) c.args.nodes.now c.loop-node.node-index c.loop-node.told.items c.loop-node-test.false c.loop-node.invariant

pub told_by_each-loop-shape-preserved : goal.told_by_each-loop-shape-preserved
told_by_each-loop-shape-preserved t c =
    some_step (λ m. WithSome c.args.nodes.now (ToldAt c.args.levels c.args.graph.now c.args.shapes.now m)) c.args.referred.now c.loop-shape.shape-index c.shape-item.result c.loop-shape.told.items c.in_ok-more.more.items c.append.new.self.items
    c.loop-shape-test.true c.shape-item.is c.in_ok-append.ensures.items c.loop-shape.invariant c.in_ok-more.ensures

pub told_by_each-returns : goal.told_by_each-returns
told_by_each-returns t c = some_all (λ m. WithSome c.args.nodes.now (ToldAt c.args.levels c.args.graph.now c.args.shapes.now m)) c.args.referred.now c.loop-shape.shape-index c.loop-shape.told.items c.loop-shape-test.false c.loop-shape.invariant

pub rows_at-returns-then-levels-eq0 : goal.rows_at-returns-then-levels-eq0
rows_at-returns-then-levels-eq0 t c = none_at c.args.graph.now c.args.shapes.now c.args.levels c.args.shape.now c.args.focus.now c.new.result.items c.if-levels-eq0.true c.new.ensures.items

pub rows_at-place_rows-requires-clause-values : goal.rows_at-place_rows-requires-clause-values
rows_at-place_rows-requires-clause-values t c = subst (λ (vs : List Term). IsAscending term_cmp vs) (sym c.as_slice-values.ensures) c.in_ok-found.ensures.ascending

pub rows_at-returns : goal.rows_at-returns
rows_at-returns t c =
    let g = c.args.graph.now in
    let s = c.args.shapes.now in
    let n = c.args.shape.now in
    let f = c.args.focus.now in
    let below = c.args.levels - 1 in
    let values = c.as_slice-values.result.now in
    let referred = c.deref.result.now in
    level_found g s below n f values referred c.deref-2.result.now
    (listing_at (ValueNode g (reading s n) f) c.in_ok-found.found values c.as_slice-values.ensures c.in_ok-found.ensures)
    (λ m i. subst (λ (xs : List Term). Contains xs m) (sym c.deref.ensures.value) (c.in_ok-referred.ensures m i))
    (finds_at (WithSome referred (λ m. WithSome values (ToldAt below g s m))) c.in_ok-told.told.items c.deref-2.result.now c.deref-2.ensures.value c.in_ok-told.ensures)
    c.in_ok-rows.rows.items c.in_ok-rows.ensures c.args.levels (omega (arith, c.if-levels-eq0.false))
