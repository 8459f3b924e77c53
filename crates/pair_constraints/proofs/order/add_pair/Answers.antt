use Rattle.std.proofs.Common.{◌≡◌, ◌∙◌, sym, subst, Bool, true, false, [], ◌∷◌}
use Rattle.std.proofs.lemmas.List.{append-nil}
use Rattle.rdf_model.specs.declared.term.Term.{Term}
use Rattle.rdf_model.specs.Numbers.{term_at}
use Rattle.component_rows.specs.Sites.{site_row}
use Rattle.component_rows.proofs.Collecting.{collects_none, collects_one}
use Rattle.pair_constraints.specs.Focus.{PairRow, Stands}
use Rattle.pair_constraints.proofs.order.add_pair.Goals as goal

pub returns-then-stands : goal.returns-then-stands
returns-then-stands g c =
    let terms = c.args.site.now.terms in
    let told = subst (λ (p : Term × Term). Stands c.args.comparison p.0 p.1) (λ i. (c.named.ensures i, c.named-2.ensures i)) (c.stands.ensures.0 c.if-stands.true) in (
      [],
      sym (append-nil c.args.rows.now.items),
      collects_none (PairRow terms (site_row c.args.component c.args.site.now) c.args.comparison c.args.value c.args.other)
          (λ r h. h.0 told),
    )

refuted : (b : Bool) (P : Type 0) → (P → b ≡ true) → b ≡ false → P → ⊥
refuted b P h e p = let yes = h p in cc (yes, e)

pub returns : goal.returns
returns g c =
    let terms = c.args.site.now.terms in
    let row = c.in_ok-row_beside.field-0 in
    let told = λ (stands : Stands c.args.comparison (term_at terms c.args.value) (term_at terms c.args.other)).
    c.stands.ensures.1 (subst (λ (p : Term × Term). Stands c.args.comparison p.0 p.1) (λ i. (sym c.named.ensures i, sym c.named-2.ensures i)) stands) in (
      row ∷ [],
      c.in_ok-push.ensures.items,
      collects_one (PairRow terms (site_row c.args.component c.args.site.now) c.args.comparison c.args.value c.args.other) row
          (refuted c.stands.result (Stands c.args.comparison (term_at terms c.args.value) (term_at terms c.args.other)) told c.if-stands.false, c.in_ok-row_beside.ensures) (λ r h. h.1 ∙ sym c.in_ok-row_beside.ensures),
    )
