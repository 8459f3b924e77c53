use Rattle.std.proofs.Common.{◌∙◌, ap, subst, sym, length, Bool, List}
use Rattle.std.proofs.lemmas.Result.{IfOk-weaker}
use Rattle.rdf_model.specs.Numbers.{term_at}
use Rattle.shape_model.specs.declared.component.Component.TheVariants as components
use Rattle.shape_model.specs.Components.{ForEach, RowsOf}
use Rattle.component_rows.specs.Answers.{AreAnswersTo}
use Rattle.component_rows.specs.Listed.{Lists}
use Rattle.component_rows.specs.Nodes.{IsAnswered}
use Rattle.component_rows.specs.Sites.{at_values, site_row}
use Rattle.component_rows.proofs.Collecting.{lists_same}
use Rattle.component_rows.proofs.Told.{refused_where}
use Rattle.shape_model.specs.TermTests.{IsMatched}
use Rattle.string_constraints.specs.Matches.{with_flags}
use Rattle.string_constraints.proofs.Patterns.{with_flags_alone}
use Rattle.string_constraints.proofs.matching.pattern.Goals as goal

pub refused-requires : goal.refused-requires
refused-requires g c = ap (λ (answers : List Bool). length answers) c.deref.ensures.value ∙ c.in_ok-answers.ensures.as_many

pub returns-clause-rows : goal.returns-clause-rows
returns-clause-rows g c = λ source.
    let s = c.args.site.now in
    let q = term_at s.terms s.parameter in
    let flags = c.args.matcher.now.flags in
    let nodes = at_values s in
    let row = site_row components.Pattern s in
    let are : AreAnswersTo (IsMatched q flags) s.terms s.values c.deref.result.now =
    subst (λ (answers : List Bool). AreAnswersTo (IsMatched q flags) s.terms s.values answers) (sym c.deref.ensures.value) (c.in_ok-answers.ensures.told q source) in
    IfOk-weaker c.refused.result
    (λ rows. Lists (ForEach nodes row (λ v. IsAnswered s.terms s.values c.deref.result.now v → ⊥)) rows.items)
    (λ rows. Lists (RowsOf components.Pattern nodes (with_flags flags) q row) rows.items)
    (λ rows h. lists_same (ForEach nodes row (λ v. IsMatched q flags v → ⊥)) (RowsOf components.Pattern nodes (with_flags flags) q row) rows.items (λ r. (
      λ p. (p.0, p.1, (λ m. p.2 ((with_flags_alone q flags p.0).1 m)), p.3),
      λ p. (p.0, p.1, (λ m. p.2 ((with_flags_alone q flags p.0).0 m)), p.3),
    )) (refused_where (IsMatched q flags) s.terms s.values c.deref.result.now are row rows.items h))
    c.refused.ensures
