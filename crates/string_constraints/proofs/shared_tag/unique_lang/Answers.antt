use Rattle.std.proofs.Common.{◌≡◌, ◌∙◌, List, ℕ, subst, sym}
use Rattle.std.specs.List.{Contains}
use Rattle.std.proofs.lemmas.Result.{IfOk-weaker}
use Rattle.rdf_model.specs.Numbers.{term_at}
use Rattle.shape_model.specs.declared.result_row.ResultRow.{ResultRow}
use Rattle.shape_model.specs.declared.component.Component.TheVariants as components
use Rattle.shape_model.specs.Components.{RowsOf}
use Rattle.component_rows.specs.Listed.{Lists, untold}
use Rattle.component_rows.specs.Sites.{ListsAt, at_values, site_row}
use Rattle.component_rows.proofs.Collecting.{lists_none, lists_same}
use Rattle.string_constraints.specs.Languages.{found_for}
use Rattle.string_constraints.proofs.shared_tag.unique_lang.Goals as goal

pub returns-then-not-is_true : goal.returns-then-not-is_true
returns-then-not-is_true g c =
    let s = c.args.site.now in
    let Row = RowsOf components.UniqueLang (at_values s) untold (term_at s.terms s.parameter) (site_row components.UniqueLang s) in
    subst (λ (rows : List ResultRow). Lists Row rows) (sym c.new.ensures.items)
    (lists_none Row (λ r h. let told = c.is_true.ensures.1 (c.parameter_term.ensures ∙ h.0) in let not = c.if-not-is_true.true in cc (told, not)))

pub returns : goal.returns
returns g c =
    let s = c.args.site.now in
    let row = site_row components.UniqueLang s in
    let is = sym c.parameter_term.ensures ∙ c.is_true.ensures.0 c.if-not-is_true.false in
    let ForTags = λ (r : ResultRow). (t : List ℕ) × Contains c.in_ok-tags.tags.keys t × (r ≡ row (found_for t)) in
    IfOk-weaker c.rows_for.result (λ rows. Lists ForTags rows.items) (λ rows. ListsAt components.UniqueLang (at_values s) untold s rows.items)
    (λ rows h. lists_same ForTags (RowsOf components.UniqueLang (at_values s) untold (term_at s.terms s.parameter) row) rows.items (λ r. (
      λ p. let two = (c.in_ok-tags.ensures p.0).0 p.1 in (is, (p.0, two.0, two.1, two.2, two.3, two.4, two.5, two.6, p.2)),
      λ p. let x = p.1 in (x.0, (c.in_ok-tags.ensures x.0).1 (x.1, x.2, x.3, x.4, x.5, x.6, x.7), x.8),
    )) h)
    c.rows_for.ensures
