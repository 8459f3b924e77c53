use Rattle.std.proofs.Common.{◌∙◌, ℕ, Global, List, Vec, ap, map, subst, sym}
use Rattle.std.proofs.lemmas.Result.{err_from_is_err_and}
use Rattle.bgp_query.specs.AllBindings.{AreBindings}
use Rattle.bgp_query.specs.Bindings.{HasMore, IsBinding, IsIn, most_bindings}
use Rattle.bgp_query.proofs.Complete.{more_stopped, none_answered}
use Rattle.bgp_query.proofs.bindings.select.Goals as goal

pub returns-then-not-all_occur-clause-bindings : goal.returns-then-not-all_occur-clause-bindings
returns-then-not-all_occur-clause-bindings g c =
    let some = c.all_occur.ensures.some c.if-not-all_occur.true in
    none_answered (g.R.Triples.triples c.args.set.now) c.args.patterns.now c.variable_count-variables.result c.variable_count-variables.ensures some.0 some.1 some.2 (map (λ (v : Vec ℕ Global). v.items) c.new.result.items)
    (ap (map (λ (v : Vec ℕ Global). v.items)) c.new.ensures.items)

pub returns-in_err-rows-clause-many : goal.returns-in_err-rows-clause-many
returns-in_err-rows-clause-many g c =
    let k = err_from_is_err_and c.from_residual.result c.from_residual.ensures.1 in
    more_stopped (HasMore most_bindings (IsBinding (IsIn (g.R.Triples.triples c.args.set.now)) c.args.patterns.now)) c.from_residual.result k.0 c.in_err-rows.field-0.0 k.1 k.2 c.in_err-rows.ensures.many

pub returns-clause-bindings : goal.returns-clause-bindings
returns-clause-bindings g c = subst (λ (rs : List (List ℕ)). AreBindings (g.R.Triples.triples c.args.set.now) c.args.patterns.now rs) (sym (c.in_ok-vectors_of.ensures ∙ c.deref.ensures.value)) c.in_ok-rows.ensures.bindings
