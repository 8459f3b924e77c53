use Rattle.std.proofs.Common.{◌∙◌, ℕ, ap, subst, sym, length, Bool, List}
use Rattle.std.proofs.lemmas.Result.{IfOk-weaker}
use Rattle.rdf_model.specs.Numbers.{term_at}
use Rattle.shape_model.specs.declared.component.Component.TheVariants as components
use Rattle.shape_model.specs.Components.{ForEach, RowsOf}
use Rattle.std.specs.Prelude.{map}
use Rattle.component_rows.specs.Listed.{Lists, with_list}
use Rattle.component_rows.specs.Nodes.{IsAnswered}
use Rattle.component_rows.specs.Sites.{at_values, site_row}
use Rattle.value_constraints.specs.Answers.{AreAnswers}
use Rattle.value_constraints.proofs.Membership.{in_rows}
use Rattle.value_constraints.proofs.set.in_list.Goals as goal

pub refused-requires : goal.refused-requires
refused-requires g c = ap (λ (answers : List Bool). length answers) c.deref.ensures.value ∙ c.in_ok-answers.ensures.as_many ∙ ap (λ (ns : List ℕ). length ns) c.values.ensures

pub returns : goal.returns
returns g c =
    let s = c.args.site.now in
    let row = site_row components.In s in
    let are : AreAnswers s.values c.args.members.now c.deref.result.now = subst (λ (p : List ℕ × List Bool). AreAnswers p.0 c.args.members.now p.1) (λ i. (c.values.ensures i, sym c.deref.ensures.value i)) c.in_ok-answers.ensures in
    IfOk-weaker c.refused.result
    (λ rows. Lists (ForEach (at_values s) row (λ v. IsAnswered s.terms s.values c.deref.result.now v → ⊥)) rows.items)
    (λ rows. Lists (RowsOf components.In (at_values s) (with_list (map (term_at s.terms) c.args.members.now)) (term_at s.terms s.parameter) row) rows.items)
    (λ rows h. in_rows s.terms c.recall.ensures.numbering s.values c.args.members.now c.recall.ensures.nodes c.requires c.deref.result.now are row (term_at s.terms s.parameter) rows.items h)
    c.refused.ensures
