use Rattle.std.proofs.Common.{List, [], subst, sym}
use Rattle.std.proofs.lemmas.Result.{err_from_is_err_and}
use Rattle.bgp_query.specs.declared.trail.BoundVariable.{BoundVariable}
use Rattle.bgp_query.specs.Bindings.{HasMore, most_bindings}
use Rattle.bgp_query.specs.Trails.{Covers, IsRow}
use Rattle.bgp_query.proofs.Complete.{all_added, all_over, empty_trail, more_stopped}
use Rattle.bgp_query.proofs.bindings.all_rows.Goals as goal

pub join_from-requires-clause-trail : goal.join_from-requires-clause-trail
join_from-requires-clause-trail g c = empty_trail c.args.search.now.variables c.new-trail.result.items c.new-trail.ensures.items

pub join_from-requires-clause-covered : goal.join_from-requires-clause-covered
join_from-requires-clause-covered g c = subst (λ (bs : List BoundVariable). Covers c.args.search.now.variables bs c.args.patterns.now) (sym c.new-trail.ensures.items) c.requires.covered

pub returns-in_err-join_from-clause-many : goal.returns-in_err-join_from-clause-many
returns-in_err-join_from-clause-many g c =
    let ids = g.R.Triples.triples c.args.search.now.set.now in
    let n = c.args.search.now.variables in
    let k = err_from_is_err_and c.from_residual.result c.from_residual.ensures.1 in
    more_stopped (HasMore most_bindings (IsRow ids n [] c.args.patterns.now)) c.from_residual.result k.0 c.in_err-join_from.field-0.0 k.1 k.2
    (λ many. all_over ids n c.new-trail.result.items c.args.patterns.now c.new-rows.result.items c.join_from.new.rows.items c.new-trail.ensures.items c.new-rows.ensures.items (c.in_err-join_from.ensures.rows many))

pub returns-clause-rows : goal.returns-clause-rows
returns-clause-rows g c = all_added (g.R.Triples.triples c.args.search.now.set.now) c.args.search.now.variables c.new-trail.result.items c.args.patterns.now c.new-rows.result.items c.join_from.new.rows.items c.new-trail.ensures.items c.new-rows.ensures.items
    c.in_ok-join_from.ensures.rows

pub returns-clause-few : goal.returns-clause-few
returns-clause-few g c = c.in_ok-join_from.ensures.rows.few
