-- Numbers of terms never change.
use Rattle.std.proofs.Common.{◌≡◌, ◌+◌, Bool, true, false, ◌||◌, cond, List, [], ◌∷◌, ◌++◌, refl, ap, ◌∙◌}
use Rattle.rdf_model.specs.declared.term.Term.{Term}
use Rattle.rdf_model.specs.Terms.{term_cmp}
use Rattle.rdf_model.specs.Matching.{same_term}
use Rattle.collections.specs.Ordered.{has_item}
use Rattle.store_model.specs.Store.{number_of}
use Rattle.store_laws.specs.Names.{NumbersStay}

abbrev has : List Term → Term → Bool
has named t = has_item term_cmp t named

has-push : (named : List Term) (u t : Term) → has named t ≡ true → has (named ++ u ∷ []) t ≡ true
has-push [] u t h = cc
has-push (x ∷ xs) u t h = elim (same_term x t) as (λ b. (b || has xs t) ≡ true → (b || has (xs ++ u ∷ []) t) ≡ true) [ true ↦ λ _. refl | false ↦ λ g. has-push xs u t g ] h

number_of-push : (named : List Term) (u t : Term) → has named t ≡ true → number_of (named ++ u ∷ []) t ≡ number_of named t
number_of-push [] u t h = cc
number_of-push (x ∷ xs) u t h = elim (same_term x t) as (λ b. (b || has xs t) ≡ true → cond b 0 (number_of (xs ++ u ∷ []) t + 1) ≡ cond b 0 (number_of xs t + 1)) [
  | true ↦ λ _. refl
  | false ↦ λ g. ap (λ n. n + 1) (number_of-push xs u t g)
] h

abbrev one_more : List Term → Term → List Term
one_more named u = cond (has named u) named (named ++ u ∷ [])

has-one_more : (named : List Term) (u t : Term) → has named t ≡ true → has (one_more named u) t ≡ true
has-one_more named u t h = elim (has named u) as (λ b. has (cond b named (named ++ u ∷ [])) t ≡ true) [ true ↦ h | false ↦ has-push named u t h ]

number_of-one_more : (named : List Term) (u t : Term) → has named t ≡ true → number_of (one_more named u) t ≡ number_of named t
number_of-one_more named u t h = elim (has named u) as (λ b. number_of (cond b named (named ++ u ∷ [])) t ≡ number_of named t) [ true ↦ refl | false ↦ number_of-push named u t h ]

pub numbers_stay : NumbersStay
numbers_stay named [] t h = refl
numbers_stay named (u ∷ us) t h = numbers_stay (one_more named u) us t (has-one_more named u t h) ∙ number_of-one_more named u t h
