-- Value nodes that conform to shapes, by the answers at their places.
use Rattle.std.proofs.Common.{◌≡◌, ◌∙◌, ℕ, zero, suc, ◌<◌, Bool, List, [], ◌∷◌, length, map, get_or, refl, sym, arith, subst, inl, inr}
use Rattle.std.specs.Prelude.{◌↔◌}
use Rattle.std.specs.List.{Contains}
use Rattle.collections.proofs.Members.{has_cases}
use Rattle.rdf_model.specs.declared.term.Term.{Term}
use Rattle.rdf_model.specs.Numbers.{term_at, IsNumbering}
use Rattle.shape_model.specs.declared.component.Component.TheVariants as components
use Rattle.shape_model.specs.declared.result_row.ResultRow.{ResultRow}
use Rattle.shape_model.specs.Components.{Finding, Surroundings, ConformsTo, ForEach, NoneOf, OneOf, RowsOf}
use Rattle.shape_model.specs.Triples.{IsMember}
use Rattle.component_rows.specs.Answers.{AreAnswersTo}
use Rattle.component_rows.specs.Listed.{Lists, at_nodes, untold, with_list}
use Rattle.component_rows.specs.Nodes.{AreNodes, HasNode}
use Rattle.component_rows.proofs.Collecting.{lists_same}
use Rattle.logic_constraints.specs.declared.demand.Demand.{Demand}
use Rattle.logic_constraints.specs.declared.demand.Demand.TheVariants.{All, Any, One, Neither}
use Rattle.component_rows.specs.Conformance.{AreTold, told_shapes, yes_at}
use Rattle.logic_constraints.specs.Demands.{AreMet, IsMet, Meets}
use Rattle.component_rows.proofs.Conforming.{agreed, one_place, placed}
use Rattle.component_rows.proofs.Tally.{all_yes, none_yes, one_yes, some_yes}

-- the results about value nodes at which a demand isn't met
abbrev pub Unmet : List Term → List ℕ → List (List Bool) → (Finding → ResultRow) → Demand → ResultRow → Type 0
Unmet terms values answers row demand r = ForEach (at_nodes (HasNode terms values)) row (λ v. Meets demand terms values answers v → ⊥) r

zero_from : (n : ℕ) → (0 < n → ⊥) → n ≡ 0
zero_from zero h = refl
zero_from (suc n) h = absurd (h (omega arith))

module _ (terms : List Term) (numbering : IsNumbering terms) (values : List ℕ) (nodes : AreNodes terms values) where
  module _ (answers : List (List Bool)) where
    -- a demand is met at the place of the node
    meets_at : (demand : Demand) (v : Term) (i : ℕ) → i < length values → term_at terms (get_or values i 0) ≡ v → Meets demand terms values answers v ↔ IsMet demand (yes_at i answers) (length answers)
    meets_at demand v i lt is = (
      λ m. subst (λ (j : ℕ). IsMet demand (yes_at j answers) (length answers)) (one_place terms numbering values nodes m.0 i m.1 lt (m.2 ∙ sym is)) m.3,
      λ met. (i, lt, is, met),
    )

    pub met_answers : (demand : Demand) (met : List Bool) → AreMet demand (length values) answers met → AreAnswersTo (Meets demand terms values answers) terms values met
    met_answers demand met h = record {
      as_many = h.as_many;
      each = λ i lt. (
        λ told. (i, lt, refl, (h.each i lt).0 told),
        λ m. (h.each i lt).1 ((meets_at demand (term_at terms (get_or values i 0)) i lt refl).0 m),
      );
    }

    module _ (shapes : List ℕ) (named : (n : ℕ) → Contains shapes n → n < length terms) (told : AreTold shapes values answers) where
      abbrev Around : Surroundings
      Around = told_shapes terms shapes values answers

      module _ (row : Finding → ResultRow) (q : Term) (rows : List ResultRow) where
        -- a value node that isn't enough, in two ways of saying
        swapped : (demand : Demand) (P : Term → Type 0) → ((r : ResultRow) (v : Term) (i : ℕ) → i < length values → term_at terms (get_or values i 0) ≡ v → (IsMet demand (yes_at i answers) (length answers) → ⊥) ↔ P v)
            → Lists (Unmet terms values answers row demand) rows → Lists (ForEach Around row P) rows
        swapped demand P same = lists_same (Unmet terms values answers row demand) (ForEach Around row P) rows (λ r. (
          λ h. let p = placed terms numbering values nodes h.0 h.1 in (h.0, h.1, (same r h.0 p.0 p.1 p.2).0 (λ met. h.2 ((meets_at demand h.0 p.0 p.1 p.2).1 met)), h.3),
          λ h. let p = placed terms numbering values nodes h.0 h.1 in (h.0, h.1, (λ m. (same r h.0 p.0 p.1 p.2).1 h.2 ((meets_at demand h.0 p.0 p.1 p.2).0 m)), h.3),
        ))

        abbrev Members : List Term
        Members = map (term_at terms) shapes

        pub and_rows : Lists (Unmet terms values answers row All) rows → Lists (RowsOf components.And Around (with_list Members) q row) rows
        and_rows h = lists_same (ForEach Around row (λ v. ((m : Term) → IsMember Members m → ConformsTo Around m v) → ⊥)) (RowsOf components.And Around (with_list Members) q row) rows
            (λ r. (λ p. (Members, refl, p), λ p. subst (λ (ms : List Term). ForEach Around row (λ v. ((m : Term) → IsMember ms m → ConformsTo Around m v) → ⊥) r) p.1 p.2))
            (swapped All (λ v. ((m : Term) → IsMember Members m → ConformsTo Around m v) → ⊥) (λ r v i lt is.
            let both = all_yes (λ m. ConformsTo Around m v) i Members answers (agreed terms numbering values nodes answers shapes named told r v i lt is) in
            (λ unmet all. unmet (both.0 all), λ not met. not (both.1 met))) h)

        pub or_rows : Lists (Unmet terms values answers row Any) rows → Lists (RowsOf components.Or Around (with_list Members) q row) rows
        or_rows h = lists_same (ForEach Around row (λ v. NoneOf (λ m. ConformsTo Around m v) Members)) (RowsOf components.Or Around (with_list Members) q row) rows
            (λ r. (λ p. (Members, refl, p), λ p. subst (λ (ms : List Term). ForEach Around row (λ v. NoneOf (λ m. ConformsTo Around m v) ms) r) p.1 p.2))
            (swapped Any (λ v. NoneOf (λ m. ConformsTo Around m v) Members) (λ r v i lt is.
            let both = none_yes (λ m. ConformsTo Around m v) i Members answers (agreed terms numbering values nodes answers shapes named told r v i lt is) in
            (λ unmet. both.1 (zero_from (yes_at i answers) unmet), λ none met. let total = both.0 none in absurd (omega (arith, total, met)))) h)

        pub xone_rows : Lists (Unmet terms values answers row One) rows → Lists (RowsOf components.Xone Around (with_list Members) q row) rows
        xone_rows h = lists_same (ForEach Around row (λ v. OneOf (λ m. ConformsTo Around m v) Members → ⊥)) (RowsOf components.Xone Around (with_list Members) q row) rows
            (λ r. (λ p. (Members, refl, p), λ p. subst (λ (ms : List Term). ForEach Around row (λ v. OneOf (λ m. ConformsTo Around m v) ms → ⊥) r) p.1 p.2))
            (swapped One (λ v. OneOf (λ m. ConformsTo Around m v) Members → ⊥) (λ r v i lt is.
            let both = one_yes (λ m. ConformsTo Around m v) i Members answers (agreed terms numbering values nodes answers shapes named told r v i lt is) in
            (λ unmet one. unmet (both.0 one), λ not met. not (both.1 met))) h)

    -- of one shape alone
    module _ (shape : ℕ) (bound : shape < length terms) (told : AreTold (shape ∷ []) values answers) (row : Finding → ResultRow) (rows : List ResultRow) where
      only : (n : ℕ) → Contains (shape ∷ []) n → n < length terms
      only n c = elim (has_cases shape [] n c) [ inl e ↦ subst (λ (k : ℕ). k < length terms) e bound | inr never ↦ absurd (omega arith) ]

      pub not_rows : Lists (Unmet terms values answers row Neither) rows
          → Lists (RowsOf components.Not (told_shapes terms (shape ∷ []) values answers) untold (term_at terms shape) row) rows
      not_rows = swapped (shape ∷ []) only told row (term_at terms shape) rows Neither (λ v. ConformsTo (told_shapes terms (shape ∷ []) values answers) (term_at terms shape) v) (λ r v i lt is.
          some_yes (λ m. ConformsTo (told_shapes terms (shape ∷ []) values answers) m v) i (term_at terms shape) answers (agreed terms numbering values nodes answers (shape ∷ []) only told r v i lt is))

      pub node_rows : Lists (Unmet terms values answers row All) rows
          → Lists (RowsOf components.Node (told_shapes terms (shape ∷ []) values answers) untold (term_at terms shape) row) rows
      node_rows = swapped (shape ∷ []) only told row (term_at terms shape) rows All (λ v. ConformsTo (told_shapes terms (shape ∷ []) values answers) (term_at terms shape) v → ⊥) (λ r v i lt is.
          let both = all_yes (λ m. ConformsTo (told_shapes terms (shape ∷ []) values answers) m v) i (term_at terms shape ∷ []) answers (agreed terms numbering values nodes answers (shape ∷ []) only told r v i lt is) in (
            λ unmet conforms. unmet (both.0 (λ m d. elim d [ inl e ↦ subst (λ (n : Term). ConformsTo (told_shapes terms (shape ∷ []) values answers) n v) e conforms | inr never ↦ absurd never ])),
            λ not met. not (both.1 met (term_at terms shape) (inl refl)),
          ))
