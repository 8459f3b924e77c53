-- How many value nodes are qualified.
use Rattle.std.proofs.Common.{◌≡◌, ℕ, ◌<◌, Bool, List, [], ◌∷◌, length, map, get_or, refl, arith, subst, inl, inr}
use Rattle.std.specs.Prelude.{◌↔◌}
use Rattle.std.specs.List.{Contains}
use Rattle.collections.proofs.Members.{has_cases}
use Rattle.rdf_model.specs.declared.term.Term.{Term}
use Rattle.rdf_model.specs.Numbers.{term_at, IsNumbering}
use Rattle.shape_model.specs.declared.result_row.ResultRow.{ResultRow}
use Rattle.shape_model.specs.Components.{Finding, Surroundings, ConformsTo, ForQualifiedCount, IsQualified, NoneOf, found_alone}
use Rattle.shape_model.specs.Listings.{Counts}
use Rattle.shape_model.specs.Readings.{Reading}
use Rattle.shape_model.specs.TermTests.{count_of}
use Rattle.component_rows.specs.Answers.{Tells}
use Rattle.component_rows.specs.Conformance.{AreTold, how_many, told_shapes}
use Rattle.component_rows.specs.Listed.{Lists}
use Rattle.component_rows.specs.Nodes.{AreNodes, HasNode}
use Rattle.component_rows.proofs.Collecting.{lists_same}
use Rattle.component_rows.proofs.Conforming.{agreed}
use Rattle.component_rows.proofs.Numbers.{counted_answers, counts_same, one_count}
use Rattle.component_rows.proofs.Tally.{Agrees, first_yes, none_yes}
use Rattle.component_rows.specs.declared.bound.End.{End}
use Rattle.qualified_shapes.specs.Qualified.{Qualifies, with_qualified}
use Rattle.component_rows.specs.Bounds.{IsWrong}

-- the first of the answers alone is yes
first_alone : (C : Term → Type 0) (i : ℕ) (m : Term) (ms : List Term) (ls : List (List Bool)) → Agrees C i (m ∷ ms) ls → Qualifies ls i ↔ (C m × NoneOf C ms)
first_alone C i m ms [] h = absurd h
first_alone C i m ms (a ∷ ls) h =
    let none = none_yes C i ms ls h.1 in (
      λ q. let count = first_yes C i a ls q.0 in let total = q.1 in (h.0.0 q.0, none.1 (omega (arith, count, total))),
      λ p. let first = h.0.1 p.0 in let count = first_yes C i a ls first in let others = none.0 p.1 in (first, omega (arith, count, others)),
    )

module _ (terms : List Term) (numbering : IsNumbering terms) (values : List ℕ) (nodes : AreNodes terms values) (answers : List (List Bool))
    (shape : ℕ) (bound : shape < length terms) (siblings : List ℕ) (named : (n : ℕ) → Contains siblings n → n < length terms) (told : AreTold (shape ∷ siblings) values answers)
    (row : Finding → ResultRow) (q : Term) where
  abbrev Around : Surroundings
  Around = told_shapes terms (shape ∷ siblings) values answers

  abbrev Said : Reading
  Said = with_qualified (term_at terms shape) (map (term_at terms) siblings)

  abbrev Siblings : List Term
  Siblings = map (term_at terms) siblings

  all_named : (n : ℕ) → Contains (shape ∷ siblings) n → n < length terms
  all_named n c = elim (has_cases shape siblings n c) [ inl e ↦ subst (λ (k : ℕ). k < length terms) e bound | inr d ↦ named n d ]

  abbrev Alone : Term → Type 0
  Alone v = ConformsTo Around (term_at terms shape) v × NoneOf (λ m. ConformsTo Around m v) Siblings

  told_alone : (met : List Bool) → Tells (Qualifies answers) (length values) met → Tells (λ i. Alone (term_at terms (get_or values i 0))) (length values) met
  told_alone met h = record {
    as_many = h.as_many;
    each = λ i lt. (
        let v = term_at terms (get_or values i 0) in
        let both = first_alone (λ m. ConformsTo Around m v) i (term_at terms shape) Siblings answers (agreed terms numbering values nodes answers (shape ∷ siblings) all_named told (row found_alone) v i lt refl) in
        (λ is. both.0 ((h.each i lt).0 is), λ p. (h.each i lt).1 (both.1 p))
        );
  }

  qualified_many : (met : List Bool) → Tells (Qualifies answers) (length values) met → Counts (IsQualified Around Said (term_at terms shape)) (how_many met)
  qualified_many met h =
      counts_same (λ v. HasNode terms values v × Alone v) (IsQualified Around Said (term_at terms shape)) (λ v. (λ p. (p.0, p.1.0, p.1.1), λ p. (p.0, (p.1, p.2)))) (how_many met)
      (counted_answers Alone terms numbering values nodes met (told_alone met h))

  pub qualified_rows : (end : End) (met : List Bool) → Tells (Qualifies answers) (length values) met → (rows : List ResultRow)
      → Lists (λ r. IsWrong end (count_of q) (how_many met) × (r ≡ row found_alone)) rows
      → Lists (ForQualifiedCount Around Said row (IsWrong end (count_of q))) rows
  qualified_rows end met h rows = lists_same (λ r. IsWrong end (count_of q) (how_many met) × (r ≡ row found_alone)) (ForQualifiedCount Around Said row (IsWrong end (count_of q))) rows (λ r. (
    λ p. (term_at terms shape, refl, (how_many met, qualified_many met h, p.0, p.1)),
    λ p. let c = p.2 in
        let counts : Counts (IsQualified Around Said (term_at terms shape)) c.0 = subst (λ (m : Term). Counts (IsQualified Around Said m) c.0) p.1 c.1 in
        let same = one_count (IsQualified Around Said (term_at terms shape)) c.0 (how_many met) counts (qualified_many met h) in
        (subst (λ (n : ℕ). IsWrong end (count_of q) n) same c.2, c.3),
  ))
