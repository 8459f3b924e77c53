use Rattle.std.proofs.Common.{subst}
use Rattle.std.proofs.lemmas.Result.{IfOk-weaker}
use Rattle.rdf_model.specs.declared.term.Term.{Term}
use Rattle.shape_model.specs.declared.component.Component.TheVariants as components
use Rattle.shape_model.specs.Components.{ForEach}
use Rattle.shape_model.specs.TermTests.{IsOfKind}
use Rattle.component_rows.specs.Listed.{Lists, untold}
use Rattle.component_rows.specs.Sites.{ListsAt, at_values, site_row}
use Rattle.value_constraints.proofs.kind.node_kind.Goals as goal

pub returns : goal.returns
returns g c =
    let s = c.args.site.now in
    let row = site_row components.NodeKind s in
    IfOk-weaker c.failing.result (λ rows. Lists (ForEach (at_values s) row (λ v. IsOfKind c.parameter_term-kind.result.now v → ⊥)) rows.items)
    (λ rows. ListsAt components.NodeKind (at_values s) untold s rows.items)
    (λ rows h. subst (λ (q : Term). Lists (ForEach (at_values s) row (λ v. IsOfKind q v → ⊥)) rows.items) c.parameter_term-kind.ensures h)
    c.failing.ensures
