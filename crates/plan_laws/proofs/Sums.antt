-- Sums over lists.
use Rattle.std.proofs.Common.{◌≡◌, ◌∙◌, ℕ, ◌+◌, List, [], ◌∷◌, ◌++◌, length, refl, ap, subst, arith}
use Rattle.std.specs.List.{flat_map}
use Rattle.std.proofs.lemmas.List.{length-append}
use Rattle.reference_totals.specs.Totals.{SumBy}

-- the sum of what the places have
abbrev pub total : (ℕ → ℕ) → List ℕ → ℕ
total f [] = 0
total f (n ∷ ns) = f n + total f ns

pub total_append : (f : ℕ → ℕ) (ms ns : List ℕ) → total f (ms ++ ns) ≡ total f ms + total f ns
total_append f [] ns = omega arith
total_append f (m ∷ ms) ns = let e : total f (ms ++ ns) ≡ total f ms + total f ns = total_append f ms ns in omega (arith, e)

pub flat_total : {X : Type 0} (g : ℕ → List X) (ns : List ℕ) → length (flat_map g ns) ≡ total (λ n. length (g n)) ns
flat_total g [] = refl
flat_total g (n ∷ ns) = length-append (g n) (flat_map g ns) ∙ ap (λ k. length (g n) + k) (flat_total g ns)

pub sum_append : {X : Type 0} (T : X → ℕ → Type 0) (xs ys : List X) (a b : ℕ) → SumBy T xs a → SumBy T ys b → SumBy T (xs ++ ys) (a + b)
sum_append T [] ys a b h i = let e : b ≡ a + b = omega (arith, h) in subst (λ (k : ℕ). SumBy T ys k) e i
sum_append T (x ∷ xs) ys a b h i = (h.0, h.1 + b, h.2, sum_append T xs ys h.1 b h.3 i, let e : a ≡ h.0 + h.1 = h.4 in omega (arith, e))
