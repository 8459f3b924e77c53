-- What naming a block gives its history.
use Rattle.std.proofs.Common.{◌≡◌, ◌∙◌, ℕ, ◌<◌, List, [], ◌∷◌, ◌++◌, length, true, false, refl, sym, append_assoc}
use Rattle.std.proofs.lemmas.List.{append-nil}
use Rattle.std.specs.Prelude.{cond}
use Rattle.std.specs.List.{AllByRecursion}
use Rattle.collections.specs.Ordered.{has_item}
use Rattle.rdf_model.specs.declared.term.Term.{Term}
use Rattle.rdf_model.specs.Terms.{term_cmp}
use Rattle.term_dict.specs.Names.{AreNumbersOf, with_terms}
use Rattle.event_history.specs.Named.{IsBeginning, terms_at}

-- names come first among those with more
pub begins_with : (names ts : List Term) → IsBeginning names (with_terms names ts)
begins_with names [] = ([], sym (append-nil names))
begins_with names (t ∷ ts) = elim (has_item term_cmp t names) as (λ b. IsBeginning names (with_terms (cond b names (names ++ t ∷ [])) ts)) [
  | true ↦ begins_with names ts
  | false ↦ let rest = begins_with (names ++ t ∷ []) ts in (t ∷ rest.0, rest.1 ∙ append_assoc names (t ∷ []) rest.0)
]

-- the numbers of terms stand for them
pub numbers_told : (names ts : List Term) (ns : List ℕ) → AreNumbersOf names ts ns → terms_at names ns ≡ ts
numbers_told names [] [] a = refl
numbers_told names [] (n ∷ ns) a = absurd a
numbers_told names (t ∷ ts) [] a = absurd a
numbers_told names (t ∷ ts) (n ∷ ns) a = let first = a.0.is in let rest = numbers_told names ts ns a.1 in λ i. first i ∷ rest i

pub numbers_have : (names ts : List Term) (ns : List ℕ) → AreNumbersOf names ts ns → AllByRecursion (λ n. n < length names) ns
numbers_have names [] [] a = tt
numbers_have names [] (n ∷ ns) a = absurd a
numbers_have names (t ∷ ts) [] a = absurd a
numbers_have names (t ∷ ts) (n ∷ ns) a = (a.0.within, numbers_have names ts ns a.1)
