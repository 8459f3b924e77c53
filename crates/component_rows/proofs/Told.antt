-- Answers to nodes, one after another, and what they tell of terms.
use Rattle.std.proofs.Common.{◌≡◌, ◌∙◌, ℕ, ◌+◌, ◌<◌, ◌≤◌, Bool, true, false, List, [], ◌∷◌, ◌++◌, get_or, refl, sym, ap, arith, subst}
use Rattle.std.specs.Prelude.{◌↔◌, IsTrue, nat_lt}
use Rattle.std.proofs.lemmas.Bool.Decides.{nat_tests}
use Rattle.std.proofs.lemmas.List.{length_push, get_or_append_left, get_or_push}
use Rattle.rdf_model.specs.declared.term.Term.{Term}
use Rattle.rdf_model.specs.Numbers.{term_at}
use Rattle.shape_model.specs.declared.result_row.ResultRow.{ResultRow}
use Rattle.shape_model.specs.Components.{Finding, ForEach}
use Rattle.component_rows.specs.Answers.{AreAnswersTo, Tells}
use Rattle.component_rows.specs.Listed.{Lists, at_nodes}
use Rattle.component_rows.specs.Nodes.{HasNode, IsAnswered}
use Rattle.component_rows.proofs.Answering.{place_in}
use Rattle.component_rows.proofs.Collecting.{lists_same, mapped_from}

-- one answer more
pub tells_more : (P : ℕ → Type 0) (answers new : List Bool) (n : ℕ) (b : Bool) → new ≡ answers ++ b ∷ [] → Tells P n answers → IsTrue b ↔ P n → Tells P (n + 1) new
tells_more P answers new n b is h k = subst (λ (all : List Bool). Tells P (n + 1) all) (sym is) (record {
  as_many = length_push answers b ∙ (let many = h.as_many in omega (arith, many));
  each = λ i lt. by_test i lt (nat_lt i n) refl;
})
  where
    by_test : (i : ℕ) → i < n + 1 → (t : Bool) → nat_lt i n ≡ t → (get_or (answers ++ b ∷ []) i false ≡ true) ↔ P i
    by_test i lt true e =
        let many = h.as_many in
        let before : i < n = grind (arith, nat_tests) in
        let same = get_or_append_left answers (b ∷ []) false i (omega (arith, many, before)) in
        (λ yes. (h.each i before).0 (sym same ∙ yes), λ c. same ∙ (h.each i before).1 c)
    by_test i lt false e =
        let many = h.as_many in
        let last : i ≡ n = grind (arith, nat_tests) in
        let same = get_or_push answers b false i (omega (arith, many, last)) in
        (λ yes. subst P (sym last) (k.0 (sym same ∙ yes)), λ c. same ∙ k.1 (subst P last c))

pub tells_all : (P : ℕ → Type 0) (answers : List Bool) (n all : ℕ) → all ≤ n → n ≤ all → Tells P n answers → Tells P all answers
tells_all P answers n all le ge h = record {
  as_many = (let many = h.as_many in omega (arith, many, le, ge));
  each = λ i lt. h.each i (omega (arith, lt, le));
}

module _ (P : Term → Type 0) (terms : List Term) (numbers : List ℕ) where
  module _ (answers : List Bool) (are : AreAnswersTo P terms numbers answers) where
    -- the answer to a node is yes where P holds of its term
    pub told_from : (v : Term) → IsAnswered terms numbers answers v → P v
    told_from v told = subst P told.has_term ((are.each told.place told.within).0 told.yes)

    pub told_to : (v : Term) → HasNode terms numbers v → P v → IsAnswered terms numbers answers v
    told_to v node p =
        let m = mapped_from (term_at terms) numbers v node in
        let place = place_in numbers m.0 m.1 in
        let has : term_at terms (get_or numbers place.0 0) ≡ v = ap (term_at terms) place.2 ∙ m.2 in
        record { place = place.0; within = place.1; has_term = has; yes = (are.each place.0 place.1).1 (subst P (sym has) p) }

    -- so the results about nodes that are refused are those about nodes of which P doesn't hold
    pub refused_where : (row : Finding → ResultRow) (rows : List ResultRow) → Lists (ForEach (at_nodes (HasNode terms numbers)) row (λ v. IsAnswered terms numbers answers v → ⊥)) rows
        → Lists (ForEach (at_nodes (HasNode terms numbers)) row (λ v. P v → ⊥)) rows
    refused_where row rows = lists_same (ForEach (at_nodes (HasNode terms numbers)) row (λ v. IsAnswered terms numbers answers v → ⊥))
        (ForEach (at_nodes (HasNode terms numbers)) row (λ v. P v → ⊥)) rows (λ r. (
          λ h. (h.0, h.1, (λ p. h.2 (told_to h.0 h.1 p)), h.3),
          λ h. (h.0, h.1, (λ told. h.2 (told_from h.0 told)), h.3),
        ))
