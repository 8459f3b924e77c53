use Rattle.std.proofs.Common.{◌≡◌, ◌∙◌, List, ap, subst, map, refl}
use Rattle.std.proofs.lemmas.Result.{IfOk-weaker}
use Rattle.rdf_model.specs.declared.term.Term.{Term}
use Rattle.rdf_model.specs.Numbers.{term_at}
use Rattle.shape_model.specs.declared.component.Component.TheVariants as components
use Rattle.shape_model.specs.Components.{ForEach, RowsOf}
use Rattle.shape_model.specs.TermTests.{IsInLanguages}
use Rattle.component_rows.specs.Listed.{Lists, with_list}
use Rattle.component_rows.specs.Sites.{ListsAt, at_values, site_row}
use Rattle.component_rows.proofs.Collecting.{lists_same}
use Rattle.string_constraints.proofs.language.language_in.Goals as goal

pub returns : goal.returns
returns g c =
    let s = c.args.site.now in
    let q = term_at s.terms s.parameter in
    let row = site_row components.LanguageIn s in
    let nodes = at_values s in
    let members = map (term_at s.terms) c.args.members.now in
    let ranges : map (λ r. r.now) c.deref.result.now ≡ members = ap (map (λ r. r.now)) c.deref.ensures.value ∙ c.in_ok-ranges.ensures in
    IfOk-weaker c.failing.result (λ rows. Lists (ForEach nodes row (λ v. IsInLanguages (map (λ r. r.now) c.deref.result.now) v → ⊥)) rows.items)
    (λ rows. ListsAt components.LanguageIn nodes (with_list members) s rows.items)
    (λ rows h. lists_same (ForEach nodes row (λ v. IsInLanguages members v → ⊥)) (RowsOf components.LanguageIn nodes (with_list members) q row) rows.items (λ r. (
      λ p. (members, refl, p),
      λ p. subst (λ (ms : List Term). ForEach nodes row (λ v. IsInLanguages ms v → ⊥) r) p.1 p.2,
    )) (subst (λ (ms : List Term). Lists (ForEach nodes row (λ v. IsInLanguages ms v → ⊥)) rows.items) ranges h))
    c.failing.ensures
