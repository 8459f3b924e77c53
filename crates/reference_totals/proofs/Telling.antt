-- A table of what is known, made of the numbers in turn.
use Rattle.std.proofs.Common.{◌≡◌, ◌∙◌, ℕ, List, [], ◌∷◌, sym, ap, subst, inl, inr, refl, Bool, true, false, Option, Some, None}
use Rattle.std.specs.Prelude.{◌⊎◌, MatchOption, cond}
use Rattle.std.specs.BTreeMap.{BTreeMap}
use Rattle.std.specs.Map.{lookup}
use Rattle.std.specs.Ordering.{is_eq}
use Rattle.rdf_model.specs.declared.term.Term.{Term}
use Rattle.rdf_model.specs.Terms.{term_cmp}
use Rattle.reference_totals.specs.Totals.{entry}
use Rattle.reference_totals.specs.Numbers.{Notes}
use Rattle.reference_totals.specs.Rounds.{Tells, total_in, total_known}
use Rattle.reference_totals.proofs.Numbered.{none_in, noted_cases, noted_itself, noted_keeps, same_node}

-- What holds while the numbers are gone through: what is known of a node is in the table, or its number is left.
pub record AreTelling (numbers : BTreeMap Term ℕ) (known : List (Option ℕ)) (table : BTreeMap Term ℕ) (rest : List (Term × ℕ)) : Type 0 where
  pub sound : (n : Term) (v : ℕ) → entry table n ≡ Some v → total_known numbers known n ≡ Some v
  pub all : (n : Term) (i v : ℕ) → entry numbers n ≡ Some i → total_in known (Some i) ≡ Some v → ((w : ℕ) × (entry table n ≡ Some w)) ⊎ (lookup (λ m. is_eq (term_cmp n m)) rest ≡ Some i)

one_number : (a b : ℕ) → Some a ≡ Some b → a ≡ b
one_number a b e = cc

pub telling_none : (numbers : BTreeMap Term ℕ) (known : List (Option ℕ)) (table : BTreeMap Term ℕ) (rest : List (Term × ℕ)) → table.entries ≡ [] → rest ≡ numbers.entries → AreTelling numbers known table rest
telling_none numbers known table rest empty same = record {
  sound = λ n v e. absurd (let f = none_in table empty n in cc);
  all = λ n i v e f. inr (ap (λ es. lookup (λ m. is_eq (term_cmp n m)) es) same ∙ e);
}

-- the number that is found first, or among the others
first_or_later : (n k : Term) (i j : ℕ) (rest : List (Term × ℕ)) → cond (is_eq (term_cmp n k)) (Some j) (lookup (λ m. is_eq (term_cmp n m)) rest) ≡ Some i
    → ((n ≡ k) × (j ≡ i)) ⊎ (lookup (λ m. is_eq (term_cmp n m)) rest ≡ Some i)
first_or_later n k i j rest e = elim (is_eq (term_cmp n k)) as
    (λ (b : Bool). is_eq (term_cmp n k) ≡ b → cond b (Some j) (lookup (λ m. is_eq (term_cmp n m)) rest) ≡ Some i → ((n ≡ k) × (j ≡ i)) ⊎ (lookup (λ m. is_eq (term_cmp n m)) rest ≡ Some i)) [
      | true ↦ λ f g. inl (same_node n k f, one_number j i g)
      | false ↦ λ f g. inr g
    ] refl e

telling_put : (numbers : BTreeMap Term ℕ) (known : List (Option ℕ)) (table new : BTreeMap Term ℕ) (k : Term) (j v : ℕ) (rest : List (Term × ℕ)) → entry numbers k ≡ Some j → total_in known (Some j) ≡ Some v
    → Notes table k v new → AreTelling numbers known table ((k, j) ∷ rest) → AreTelling numbers known new rest
telling_put numbers known table new k j v rest is total notes before = record {
  sound = λ n w e. elim (noted_cases table new k v notes n) [
    | inl here ↦ subst (λ (x : Term). total_known numbers known x ≡ Some w) here.0 (ap (λ (o : Option ℕ). total_in known o) is ∙ total ∙ sym here.1 ∙ e)
    | inr other ↦ before.sound n w (sym other ∙ e)
  ];
  all = λ n i w e f. elim (before.all n i w e f) [
    | inl there ↦ inl (noted_keeps table new k v notes n there.0 there.1)
    | inr later ↦ elim (first_or_later n k i j rest later) [
      | inl here ↦ inl (v, subst (λ (x : Term). entry new x ≡ Some v) (sym here.0) (noted_itself table new k v notes))
      | inr last ↦ inr last
    ]
  ];
}

telling_left : (numbers : BTreeMap Term ℕ) (known : List (Option ℕ)) (table : BTreeMap Term ℕ) (k : Term) (j : ℕ) (rest : List (Term × ℕ)) → total_in known (Some j) ≡ None
    → AreTelling numbers known table ((k, j) ∷ rest) → AreTelling numbers known table rest
telling_left numbers known table k j rest none before = record {
  sound = before.sound;
  all = λ n i w e f. elim (before.all n i w e f) [
    | inl there ↦ inl there
    | inr later ↦ elim (first_or_later n k i j rest later) [
      | inl here ↦ absurd (let g : total_in known (Some i) ≡ None = subst (λ x. total_in known (Some x) ≡ None) here.1 none in cc)
      | inr last ↦ inr last
    ]
  ];
}

-- the total of the next node is put in, if it has one
pub telling_next : (numbers : BTreeMap Term ℕ) (known : List (Option ℕ)) (table new : BTreeMap Term ℕ) (k : Term) (j : ℕ) (rest : List (Term × ℕ)) → entry numbers k ≡ Some j
    → (o : Option ℕ) → o ≡ total_in known (Some j) → MatchOption o (new ≡ table) (λ v. Notes table k v new) → AreTelling numbers known table ((k, j) ∷ rest) → AreTelling numbers known new rest
telling_next numbers known table new k j rest is None total notes before =
    subst (λ (t : BTreeMap Term ℕ). AreTelling numbers known t rest) (sym notes) (telling_left numbers known table k j rest (sym total) before)
telling_next numbers known table new k j rest is (Some v) total notes before = telling_put numbers known table new k j v rest is (sym total) notes before

pub telling_done : (numbers : BTreeMap Term ℕ) (known : List (Option ℕ)) (table : BTreeMap Term ℕ) (rest : List (Term × ℕ)) → rest ≡ [] → AreTelling numbers known table rest → Tells numbers known table
telling_done numbers known table rest empty telling = record {
  sound = telling.sound;
  all = λ n v e. elim (entry numbers n) as (λ (o : Option ℕ). entry numbers n ≡ o → total_in known o ≡ Some v → (w : ℕ) × (entry table n ≡ Some w)) [
    | None ↦ λ f g. cc
    | Some i ↦ λ f g. elim (telling.all n i v f g) [
      | inl there ↦ there
      | inr later ↦ absurd (let h = ap (λ es. lookup (λ m. is_eq (term_cmp n m)) es) empty in cc)
    ]
  ] refl e;
}
