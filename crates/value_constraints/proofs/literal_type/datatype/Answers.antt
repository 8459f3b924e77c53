use Rattle.std.proofs.Common.{subst}
use Rattle.std.proofs.lemmas.Result.{IfOk-weaker}
use Rattle.rdf_model.specs.declared.term.Term.{Term}
use Rattle.shape_model.specs.declared.component.Component.TheVariants as components
use Rattle.shape_model.specs.Components.{ForEach}
use Rattle.shape_model.specs.TermTests.{IsOfDatatype}
use Rattle.component_rows.specs.Listed.{Lists, untold}
use Rattle.component_rows.specs.Sites.{ListsAt, at_values, site_row}
use Rattle.value_constraints.proofs.literal_type.datatype.Goals as goal

pub returns : goal.returns
returns g c =
    let s = c.args.site.now in
    let row = site_row components.Datatype s in
    IfOk-weaker c.failing.result (λ rows. Lists (ForEach (at_values s) row (λ v. IsOfDatatype c.parameter_term-datatype.result.now v → ⊥)) rows.items)
    (λ rows. ListsAt components.Datatype (at_values s) untold s rows.items)
    (λ rows h. subst (λ (q : Term). Lists (ForEach (at_values s) row (λ v. IsOfDatatype q v → ⊥)) rows.items) c.parameter_term-datatype.ensures h)
    c.failing.ensures
