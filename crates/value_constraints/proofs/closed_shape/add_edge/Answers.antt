use Rattle.std.proofs.Common.{◌∙◌, sym, [], ◌∷◌}
use Rattle.std.proofs.lemmas.List.{append-nil}
use Rattle.shape_model.specs.declared.component.Component.TheVariants as components
use Rattle.component_rows.specs.Sites.{site_row}
use Rattle.component_rows.proofs.Collecting.{collects_none, collects_one}
use Rattle.value_constraints.specs.Closing.{ForbiddenEdge}
use Rattle.value_constraints.proofs.closed_shape.add_edge.Goals as goal

pub returns-then-is_among : goal.returns-then-is_among
returns-then-is_among g c =
    let terms = c.args.site.now.terms in (
      [],
      sym (append-nil c.args.rows.now.items),
      collects_none (ForbiddenEdge terms (site_row components.Closed c.args.site.now) c.args.allowed.now c.args.value c.args.edge)
          (λ r h. h.0 (c.is_among.ensures.0 c.if-is_among.true)),
    )

pub returns : goal.returns
returns g c =
    let terms = c.args.site.now.terms in
    let Edge = ForbiddenEdge terms (site_row components.Closed c.args.site.now) c.args.allowed.now c.args.value c.args.edge in
    let row = c.in_ok-row_beside.field-0 in (
      row ∷ [],
      c.in_ok-push.ensures.items,
      collects_one Edge row
          ((λ there. let is = c.is_among.ensures.1 there in let not = c.if-is_among.false in cc (is, not)), c.in_ok-row_beside.ensures)
          (λ r h. h.1 ∙ sym c.in_ok-row_beside.ensures),
    )
