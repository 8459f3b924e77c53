-- Numbers are asked for where their terms are.
use Rattle.std.proofs.Common.{◌≡◌, ◌∙◌, ℕ, ◌<◌, ◌==◌, true, false, Some, List, length, refl, sym, ap, subst, arith, eq-eqb}
use Rattle.std.specs.List.{Contains}
use Rattle.std.proofs.lemmas.Bool.Decides.{nat_tests}
use Rattle.std.proofs.lemmas.List.Elements.{Contains-get_or}
use Rattle.rdf_model.specs.declared.term.Term.{Term}
use Rattle.rdf_model.specs.declared.term.Term.TheVariants.{Blank}
use Rattle.rdf_model.specs.Matching.{same_term}
use Rattle.rdf_model.specs.Numbers.{IsNumbering, term_at}
use Rattle.rdf_model.proofs.SameTerms.{equal_same, same_equal}
use Rattle.numbered_patterns.specs.Asked.{AsksAlike, AsksForNone}

module _ (terms : List Term) where
  pub none_alike : (t : Term) → (Contains terms t → ⊥) → AsksForNone terms (Some t)
  none_alike t never n lt = elim (same_term t (term_at terms n)) as (λ b. same_term t (term_at terms n) ≡ b → b ≡ false) [
    | true ↦ λ e. absurd (never (subst (λ (x : Term). Contains terms x) (sym (same_equal t (term_at terms n) e)) (Contains-get_or terms n (Blank 0 0) lt)))
    | false ↦ λ e. refl
  ] refl

  pub one_alike : IsNumbering terms → (t : Term) (m : ℕ) → m < length terms → term_at terms m ≡ t → AsksAlike terms (Some t) (Some m)
  one_alike numbering t m bound is n lt = elim (same_term t (term_at terms n)) as (λ b. same_term t (term_at terms n) ≡ b → (m == n) ≡ b) [
    | true ↦ λ e. eq-eqb m n (numbering m n bound lt (is ∙ same_equal t (term_at terms n) e))
    | false ↦ λ e. elim (m == n) as (λ b. (m == n) ≡ b → b ≡ false) [
      | true ↦ λ k.
          let same : m ≡ n = grind (arith, nat_tests) in
          let s : same_term t (term_at terms n) ≡ true = equal_same t (term_at terms n) (sym is ∙ ap (term_at terms) same) in
          cc (s, e)
      | false ↦ λ k. refl
    ] refl
  ] refl
