-- Value nodes among numbers, and answers to them one after another.
use Rattle.std.proofs.Common.{◌≡◌, ◌∙◌, ℕ, ◌+◌, ◌<◌, ◌≤◌, Bool, true, false, List, [], ◌∷◌, ◌++◌, length, map, get_or, refl, sym, ap, arith, subst, inl, inr}
use Rattle.std.specs.Prelude.{◌↔◌, IsTrue, nat_lt}
use Rattle.std.specs.List.{Contains}
use Rattle.std.proofs.lemmas.Bool.Decides.{nat_tests}
use Rattle.std.proofs.lemmas.List.{length_push, get_or_append_left, get_or_push}
use Rattle.collections.proofs.Members.{has_cases, has_equal, has_tail}
use Rattle.rdf_model.specs.declared.term.Term.{Term}
use Rattle.rdf_model.specs.Numbers.{term_at, IsNumbering}
use Rattle.shape_model.specs.declared.component.Component.TheVariants as components
use Rattle.shape_model.specs.declared.result_row.ResultRow.{ResultRow}
use Rattle.shape_model.specs.Components.{Finding, RowsOf, ForEach, row_of, found_alone}
use Rattle.shape_model.specs.Triples.{IsMember}
use Rattle.component_rows.specs.Listed.{Lists, at_nodes, untold, with_list}
use Rattle.component_rows.specs.Nodes.{AreNodes, HasNode, IsAnswered}
use Rattle.component_rows.proofs.Collecting.{lists_none, lists_one, lists_same, mapped_from, mapped_to}
use Rattle.component_rows.proofs.Answering.{place_in}
use Rattle.value_constraints.specs.Answers.{AreAnswers}

module _ (terms : List Term) (numbering : IsNumbering terms) (values : List ℕ) (nodes : AreNodes terms values) where
  -- a number stands among the nodes where its term does
  pub node_number : (n : ℕ) → n < length terms → HasNode terms values (term_at terms n) → Contains values n
  node_number n lt h =
      let k = mapped_from (term_at terms) values (term_at terms n) h in
      subst (λ (m : ℕ). Contains values m) (numbering k.0 n (nodes.named k.0 k.1) lt k.2) k.1

  module _ (shape f : Term) (q : ℕ) (bound : q < length terms) where
    abbrev pub HasValueRow : ResultRow → Type 0
    HasValueRow = RowsOf components.HasValue (at_nodes (HasNode terms values)) untold (term_at terms q) (row_of components.HasValue shape f (term_at terms q))

    pub is_there : Contains values q → Lists HasValueRow []
    is_there c = lists_none HasValueRow (λ r h. h.0 (mapped_to (term_at terms) values q c))

    pub is_missing : (Contains values q → ⊥) → (row : ResultRow) → row ≡ row_of components.HasValue shape f (term_at terms q) found_alone → Lists HasValueRow (row ∷ [])
    is_missing none row is = lists_one HasValueRow row (λ h. none (node_number q bound h), is) (λ r h. h.1 ∙ sym is)

-- a member is an element
contained : (ms : List Term) (v : Term) → IsMember ms v → Contains ms v
contained [] v h = absurd h
contained (m ∷ ms) v h = elim h [ inl e ↦ has_equal m ms v e | inr d ↦ has_tail m ms v (contained ms v d) ]

member_of : (ms : List Term) (v : Term) → Contains ms v → IsMember ms v
member_of [] v c = absurd (omega arith)
member_of (m ∷ ms) v c = elim (has_cases m ms v c) [ inl e ↦ inl e | inr d ↦ inr (member_of ms v d) ]

-- the first n answers
pub record AnswersTo (numbers members : List ℕ) (answers : List Bool) (n : ℕ) : Type 0 where
  pub as_many : length answers ≡ n
  pub each : (i : ℕ) → i < n → (get_or answers i false ≡ true) ↔ Contains members (get_or numbers i 0)

pub one_more : (numbers members : List ℕ) (answers new : List Bool) (n : ℕ) (b : Bool) → new ≡ answers ++ b ∷ [] → AnswersTo numbers members answers n → IsTrue b ↔ Contains members (get_or numbers n 0)
    → AnswersTo numbers members new (n + 1)
one_more numbers members answers new n b is h k = subst (λ (all : List Bool). AnswersTo numbers members all (n + 1)) (sym is) (record {
  as_many = length_push answers b ∙ (let many = h.as_many in omega (arith, many));
  each = λ i lt. by_test i lt (nat_lt i n) refl;
})
  where
    by_test : (i : ℕ) → i < n + 1 → (t : Bool) → nat_lt i n ≡ t → (get_or (answers ++ b ∷ []) i false ≡ true) ↔ Contains members (get_or numbers i 0)
    by_test i lt true e =
        let many = h.as_many in
        let before : i < n = grind (arith, nat_tests) in
        let same = get_or_append_left answers (b ∷ []) false i (omega (arith, many, before)) in
        (λ yes. (h.each i before).0 (sym same ∙ yes), λ c. same ∙ (h.each i before).1 c)
    by_test i lt false e =
        let many = h.as_many in
        let last : i ≡ n = grind (arith, nat_tests) in
        let same = get_or_push answers b false i (omega (arith, many, last)) in (
          λ yes. subst (λ (j : ℕ). Contains members (get_or numbers j 0)) (sym last) (k.0 (sym same ∙ yes)),
          λ c. same ∙ k.1 (subst (λ (j : ℕ). Contains members (get_or numbers j 0)) last c),
        )

pub all_answers : (numbers members : List ℕ) (answers : List Bool) (n : ℕ) → length numbers ≤ n → n ≤ length numbers → AnswersTo numbers members answers n → AreAnswers numbers members answers
all_answers numbers members answers n le ge h = record {
  as_many = (let many = h.as_many in omega (arith, many, le, ge));
  each = λ i lt. h.each i (omega (arith, lt, le));
}

-- a value node is answered where it is a member
module _ (terms : List Term) (numbering : IsNumbering terms) (values members : List ℕ) (nodes : AreNodes terms values) (named : AreNodes terms members) (answers : List Bool) (are : AreAnswers values members answers) where
  member_from : (v : Term) → IsAnswered terms values answers v → HasNode terms members v
  member_from v told =
      let number = (are.each told.place told.within).0 told.yes in
      subst (λ (t : Term). HasNode terms members t) told.has_term (mapped_to (term_at terms) members (get_or values told.place 0) number)

  member_to : (v : Term) → HasNode terms values v → HasNode terms members v → IsAnswered terms values answers v
  member_to v value member =
      let m = mapped_from (term_at terms) values v value in
      let k = mapped_from (term_at terms) members v member in
      let same : k.0 ≡ m.0 = numbering k.0 m.0 (named.named k.0 k.1) (nodes.named m.0 m.1) (k.2 ∙ sym m.2) in
      let place = place_in values m.0 m.1 in
      let here : get_or values place.0 0 ≡ m.0 = place.2 in
      record {
        place = place.0;
        within = place.1;
        has_term = ap (term_at terms) here ∙ m.2;
        yes = (are.each place.0 place.1).1 (subst (λ (j : ℕ). Contains members j) (same ∙ sym here) k.1);
      }

  pub in_rows : (row : Finding → ResultRow) (q : Term) (rows : List ResultRow) → Lists (ForEach (at_nodes (HasNode terms values)) row (λ v. IsAnswered terms values answers v → ⊥)) rows
      → Lists (RowsOf components.In (at_nodes (HasNode terms values)) (with_list (map (term_at terms) members)) q row) rows
  in_rows row q rows = lists_same (ForEach (at_nodes (HasNode terms values)) row (λ v. IsAnswered terms values answers v → ⊥))
      (RowsOf components.In (at_nodes (HasNode terms values)) (with_list (map (term_at terms) members)) q row) rows (λ r. (
        λ h. (map (term_at terms) members, refl, (h.0, h.1, λ member. h.2 (member_to h.0 h.1 (contained (map (term_at terms) members) h.0 member)), h.3)),
        λ h. let each : ForEach (at_nodes (HasNode terms values)) row (λ v. IsMember (map (term_at terms) members) v → ⊥) r = subst (λ (ms : List Term). ForEach (at_nodes (HasNode terms values)) row (λ v. IsMember ms v → ⊥) r) h.1 h.2 in
            (each.0, each.1, λ told. each.2 (member_of (map (term_at terms) members) each.0 (member_from each.0 told)), each.3),
      ))
