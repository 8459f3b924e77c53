use Rattle.std.proofs.Common.{◌∙◌, ℕ, sym, ap, subst, List, [], ◌∷◌, ◌++◌}
use Rattle.std.specs.List.{Contains}
use Rattle.rdf_model.specs.Numbers.{term_at}
use Rattle.shape_model.specs.declared.result_row.ResultRow.{ResultRow}
use Rattle.component_rows.specs.Listed.{Lists}
use Rattle.value_constraints.proofs.Membership.{HasValueRow, is_there, is_missing}
use Rattle.value_constraints.proofs.set.has_value.Goals as goal

pub returns-then-is_among : goal.returns-then-is_among
returns-then-is_among g c =
    let s = c.args.site.now in
    let Row = HasValueRow s.terms c.recall.ensures.numbering s.values c.recall.ensures.nodes s.source (term_at s.terms s.focus) s.parameter c.recall.ensures.parameter_named in
    let there : Contains s.values s.parameter = subst (λ (p : List ℕ × ℕ). Contains p.0 p.1) (λ i. (c.values.ensures i, c.parameter.ensures i)) (c.is_among.ensures.0 c.if-is_among.true) in
    subst (λ (rows : List ResultRow). Lists Row rows) (sym c.new-rows.ensures.items)
    (is_there s.terms c.recall.ensures.numbering s.values c.recall.ensures.nodes s.source (term_at s.terms s.focus) s.parameter c.recall.ensures.parameter_named there)

pub returns : goal.returns
returns g c =
    let s = c.args.site.now in
    let Row = HasValueRow s.terms c.recall.ensures.numbering s.values c.recall.ensures.nodes s.source (term_at s.terms s.focus) s.parameter c.recall.ensures.parameter_named in
    let row = c.in_ok-row_alone.field-0 in
    subst (λ (rows : List ResultRow). Lists Row rows) (sym (c.in_ok-push.ensures.items ∙ ap (λ (rows : List ResultRow). rows ++ row ∷ []) c.new-rows.ensures.items))
    (is_missing s.terms c.recall.ensures.numbering s.values c.recall.ensures.nodes s.source (term_at s.terms s.focus) s.parameter c.recall.ensures.parameter_named
    (λ there.
    let is = c.is_among.ensures.1 (subst (λ (p : List ℕ × ℕ). Contains p.0 p.1) (λ i. (sym c.values.ensures i, sym c.parameter.ensures i)) there) in
    let not = c.if-is_among.false in cc (is, not)) row c.in_ok-row_alone.ensures)
