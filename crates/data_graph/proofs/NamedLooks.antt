-- The terms of looks that have numbers are named.
use Rattle.std.proofs.Common.{◌≡◌, ℕ, ◌<◌, true, ◌||◌, List, [], ◌∷◌, length, map, sym, subst, ap, arith, inl, inr}
use Rattle.std.specs.List.{AllByRecursion, Contains}
use Rattle.std.proofs.lemmas.List.Elements.{All-contains, Contains-get_or}
use Rattle.collections.specs.Ordered.{has_item}
use Rattle.collections.proofs.Members.{has_cases, has_head, has_tail}
use Rattle.rdf_model.specs.declared.look.Look.{Look}
use Rattle.rdf_model.specs.declared.look.Look.TheVariants.{Out, In, OutAny}
use Rattle.rdf_model.specs.declared.term.Term.{Term}
use Rattle.rdf_model.specs.declared.term.Term.TheVariants.{Blank}
use Rattle.rdf_model.specs.Matching.{same_term}
use Rattle.rdf_model.specs.Numbers.{term_at}
use Rattle.rdf_model.specs.Terms.{term_cmp}
use Rattle.rdf_model.proofs.SameTerms.{equal_same}
use Rattle.path_eval.specs.Naming.{IsBoundLook, look_of}
use Rattle.store_model.specs.Store.{AreNamed, looked_at}
use Rattle.parallel_validate.specs.Verdicts.{AreBoundLooks}
use Rattle.data_graph.proofs.Tests.{or_last}

-- a term that has a number is named
has_term : (terms : List Term) (t : Term) → Contains terms t → has_item term_cmp t terms ≡ true
has_term [] t c = absurd (omega (arith, c.1))
has_term (x ∷ xs) t c = elim (has_cases x xs t c) [
  | inl e ↦ ap (λ b. b || has_item term_cmp t xs) (equal_same x t e)
  | inr d ↦ or_last (same_term x t) (has_item term_cmp t xs) (has_term xs t d)
]

module _ (terms : List Term) where
  has_number : (n : ℕ) → n < length terms → has_item term_cmp (term_at terms n) terms ≡ true
  has_number n lt = has_term terms (term_at terms n) (Contains-get_or terms n (Blank 0 0) lt)

  look_named : (look : Look ℕ) → IsBoundLook (length terms) look → AreNamed terms (looked_at (look_of terms look))
  look_named (Out x p) b = (has_number x b.0, (has_number p b.1, tt))
  look_named (In p x) b = (has_number p b.0, (has_number x b.1, tt))
  look_named (OutAny x) b = (has_number x b, tt)

  each_named : (looked : List (Look ℕ)) → ((look : Look ℕ) → Contains looked look → IsBoundLook (length terms) look) → AllByRecursion (λ l. AreNamed terms (looked_at l)) (map (look_of terms) looked)
  each_named [] b = tt
  each_named (look ∷ looked) b = (look_named look (b look (has_head look looked)), each_named looked (λ l c. b l (has_tail look looked l c)))

  pub looks_named : (looked : List (Look ℕ)) (looks : List (Look Term)) → AreBoundLooks terms looked → looks ≡ map (look_of terms) looked → AllByRecursion (λ l. AreNamed terms (looked_at l)) looks
  looks_named looked looks b e =
      subst (λ (ls : List (Look Term)). AllByRecursion (λ l. AreNamed terms (looked_at l)) ls) (sym e)
      (each_named looked (λ look c. All-contains (IsBoundLook (length terms)) looked look b c))
