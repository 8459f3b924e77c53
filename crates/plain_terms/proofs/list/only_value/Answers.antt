use Rattle.std.proofs.Common.{◌≡◌, ◌∙◌, List, get_or, sym, subst}
use Rattle.rdf_model.specs.declared.term.Term.{Term}
use Rattle.plain_terms.proofs.Lists.{is_only, not_only}
use Rattle.plain_terms.proofs.list.only_value.Goals as goal

pub returns-then-len-eq1 : goal.returns-then-len-eq1
returns-then-len-eq1 c =
    let x = c.index-as_slice-0.result in
    rw c.in_ok-clone.ensures.cases (is_only c.args.graph.now c.args.node.now c.args.predicate.now c.in_ok-found.found c.in_ok-found.ensures c.in_ok-values.values c.in_ok-values.ensures (sym c.len.ensures ∙ c.if-len-eq1.true) x
    (subst (λ (vs : List Term). x ≡ get_or vs 0 x) c.as_slice.ensures c.index-as_slice-0.is))

pub returns : goal.returns
returns c = not_only c.args.graph.now c.args.node.now c.args.predicate.now c.in_ok-found.found c.in_ok-found.ensures c.in_ok-values.values c.in_ok-values.ensures (λ e. c.if-len-eq1.false (c.len.ensures ∙ e))
