use Rattle.std.proofs.Common.{subst}
use Rattle.std.proofs.lemmas.Result.{IfOk-weaker}
use Rattle.rdf_model.specs.declared.term.Term.{Term}
use Rattle.rdf_model.specs.Numbers.{term_at}
use Rattle.shape_model.specs.Components.{ForEach}
use Rattle.component_rows.specs.Listed.{Lists}
use Rattle.component_rows.specs.Sites.{at_values, site_row}
use Rattle.value_constraints.specs.Ranges.{IsWithin}
use Rattle.value_constraints.proofs.range.outside.Goals as goal

pub returns : goal.returns
returns g c =
    let s = c.args.site.now in
    let row = site_row c.args.component s in
    IfOk-weaker c.failing.result (λ rows. Lists (ForEach (at_values s) row (λ v. IsWithin c.args.side c.parameter_term-bound.result.now v → ⊥)) rows.items)
    (λ rows. Lists (ForEach (at_values s) row (λ v. IsWithin c.args.side (term_at s.terms s.parameter) v → ⊥)) rows.items)
    (λ rows h. subst (λ (q : Term). Lists (ForEach (at_values s) row (λ v. IsWithin c.args.side q v → ⊥)) rows.items) c.parameter_term-bound.ensures h)
    c.failing.ensures
