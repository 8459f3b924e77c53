use Rattle.std.proofs.Common.{List, Bool, [], ◌∷◌, length, map}
use Rattle.std.proofs.lemmas.Result.{IfOk-weaker}
use Rattle.rdf_model.specs.Numbers.{term_at}
use Rattle.shape_model.specs.declared.component.Component.TheVariants as components
use Rattle.shape_model.specs.Components.{RowsOf}
use Rattle.component_rows.specs.Listed.{Lists, untold}
use Rattle.component_rows.specs.Sites.{site_row}
use Rattle.component_rows.specs.Conformance.{told_shapes}
use Rattle.component_rows.proofs.Tally.{each_of}
use Rattle.logic_constraints.specs.declared.demand.Demand.TheVariants.{Neither}
use Rattle.logic_constraints.proofs.Conforming.{Unmet, not_rows}
use Rattle.logic_constraints.proofs.components.not.Goals as goal

pub unmet-requires : goal.unmet-requires
unmet-requires g c = each_of (λ a. a.items) (length c.args.site.now.values) c.args.answers.now c.requires.each

pub returns : goal.returns
returns g c =
    let s = c.args.site.now in
    let row = site_row components.Not s in
    let answers : List (List Bool) = map (λ a. a.items) c.args.answers.now in
    IfOk-weaker c.unmet.result
    (λ rows. Lists (Unmet s.terms s.values answers row Neither) rows.items)
    (λ rows. Lists (RowsOf components.Not (told_shapes s.terms (s.parameter ∷ []) s.values answers) untold (term_at s.terms s.parameter) row) rows.items)
    (λ rows h. not_rows s.terms c.recall.ensures.numbering s.values c.recall.ensures.nodes answers s.parameter c.recall.ensures.parameter_named c.requires row rows.items h)
    c.unmet.ensures
