-- Terms that a comparison finds equal are one.
use Rattle.std.proofs.Common.{◌≡◌, ◌∙◌, Bool, true, false, List, [], ◌∷◌, refl, sym, arith, inl, inr, IsTrue}
use Rattle.std.specs.Prelude.{◌↔◌, ◌⊎◌}
use Rattle.std.specs.List.{Contains}
use Rattle.collections.proofs.Members.{has_cases, has_equal, has_tail}
use Rattle.rdf_model.specs.declared.term.Term.{Term}
use Rattle.rdf_model.specs.Matching.{same_term}
use Rattle.rdf_model.proofs.SameTerms.{same_equal, equal_same}

pub same_is : (a b : Term) (r : Bool) → r ≡ same_term a b → IsTrue r ↔ (a ≡ b)
same_is a b r h = (λ t. same_equal a b (sym h ∙ t), λ e. h ∙ equal_same a b e)

-- a term is in a list or not
pub in_or_not : (xs : List Term) (x : Term) → Contains xs x ⊎ (Contains xs x → ⊥)
in_or_not [] x = inr (λ c. absurd (omega (arith, c.1)))
in_or_not (y ∷ ys) x = elim (same_term y x) as (λ (b : Bool). same_term y x ≡ b → Contains (y ∷ ys) x ⊎ (Contains (y ∷ ys) x → ⊥)) [
  | true ↦ λ e. inl (has_equal y ys x (same_equal y x e))
  | false ↦ λ e. elim (in_or_not ys x) [
    | inl c ↦ inl (has_tail y ys x c)
    | inr apart ↦ inr (λ c. elim (has_cases y ys x c) [ inl d ↦ absurd (let k = equal_same y x d in cc (k, e)) | inr d ↦ apart d ])
  ]
] refl
