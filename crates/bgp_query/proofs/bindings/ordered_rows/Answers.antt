use Rattle.std.proofs.Common.{ℕ, List, [], subst, sym}
use Rattle.std.specs.List.Sorted.{IsPermutation}
use Rattle.std.proofs.lemmas.Result.{err_from_is_err_and}
use Rattle.bgp_query.specs.declared.pattern.JoinPattern.{JoinPattern}
use Rattle.bgp_query.specs.Bindings.{HasMore, IsBinding, IsIn, most_bindings}
use Rattle.bgp_query.proofs.Complete.{all_more, answered, more_stopped, plan_below, plan_covers}
use Rattle.bgp_query.proofs.bindings.ordered_rows.Goals as goal

pub all_rows-requires-clause-below : goal.all_rows-requires-clause-below
all_rows-requires-clause-below g c =
    plan_below (g.R.Triples.triples c.args.search.now.set.now) c.args.patterns.now c.deref.result.now c.args.search.now.variables c.requires.reach c.requires.all
    (subst (λ (ps : List (JoinPattern ℕ)). IsPermutation c.args.patterns.now ps) (sym c.deref.ensures.value) c.in_ok-plan.ensures)

pub all_rows-requires-clause-covered : goal.all_rows-requires-clause-covered
all_rows-requires-clause-covered g c =
    plan_covers (g.R.Triples.triples c.args.search.now.set.now) c.args.patterns.now c.deref.result.now c.args.search.now.variables c.requires.reach c.requires.all
    (subst (λ (ps : List (JoinPattern ℕ)). IsPermutation c.args.patterns.now ps) (sym c.deref.ensures.value) c.in_ok-plan.ensures) []

pub returns-in_err-all_rows-clause-many : goal.returns-in_err-all_rows-clause-many
returns-in_err-all_rows-clause-many g c =
    let ids = g.R.Triples.triples c.args.search.now.set.now in
    let k = err_from_is_err_and c.from_residual-in_err-all_rows.result c.from_residual-in_err-all_rows.ensures.1 in
    more_stopped (HasMore most_bindings (IsBinding (IsIn ids) c.args.patterns.now)) c.from_residual-in_err-all_rows.result k.0 c.in_err-all_rows.field-0.0 k.1 k.2
    (λ many. all_more ids c.args.patterns.now c.deref.result.now c.args.search.now.variables c.requires.reach c.requires.all
    (subst (λ (ps : List (JoinPattern ℕ)). IsPermutation c.args.patterns.now ps) (sym c.deref.ensures.value) c.in_ok-plan.ensures) (c.in_err-all_rows.ensures.many many))

pub returns-clause-bindings : goal.returns-clause-bindings
returns-clause-bindings g c =
    answered (g.R.Triples.triples c.args.search.now.set.now) c.args.patterns.now c.deref.result.now c.args.search.now.variables c.requires.reach c.requires.all
    (subst (λ (ps : List (JoinPattern ℕ)). IsPermutation c.args.patterns.now ps) (sym c.deref.ensures.value) c.in_ok-plan.ensures)
    c.in_ok-all_rows.field-0.items c.in_ok-rows.rows.items c.in_ok-all_rows.ensures.rows c.in_ok-all_rows.ensures.few c.in_ok-rows.ensures
