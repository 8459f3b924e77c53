-- Lists of pages in which one or two make place for a pair.
use Rattle.std.proofs.Common.{◌≡◌, ◌∙◌, ℕ, zero, suc, ◌+◌, ◌<◌, List, [], ◌∷◌, ◌++◌, length, take, drop, refl, sym, ap, arith}
use Rattle.std.proofs.Math.ListN.{set}
use Rattle.std.specs.Prelude.{Option, None, Some, insert}
use Rattle.page_tree.specs.Blocks.{Block, pair_blocks}

pub pair-some : {K : Type 0} (p : Block K × Option (Block K)) (b : Block K) → p.1 ≡ Some b → pair_blocks p ≡ p.0 ∷ b ∷ []
pair-some (a, q) b e = ap (λ (r : Option _). pair_blocks (a, r)) e

pub pair-none : {K : Type 0} (p : Block K × Option (Block K)) → p.1 ≡ None → pair_blocks p ≡ p.0 ∷ []
pair-none (a, q) e = ap (λ (r : Option _). pair_blocks (a, r)) e

pub set_split : {X : Type 0} (xs : List X) (i : ℕ) (a : X) → i < length xs → set xs i a ≡ take i xs ++ (a ∷ drop (suc i) xs)
set_split [] i a lt = absurd (omega arith)
set_split (x ∷ xs) zero a lt = refl
set_split (x ∷ xs) (suc i) a lt = ap (λ (t : List _). x ∷ t) (set_split xs i a (omega arith))

set_insert : {X : Type 0} (xs : List X) (i : ℕ) (a b : X) → i < length xs → set (insert xs (suc i) b) i a ≡ take i xs ++ (a ∷ b ∷ drop (suc i) xs)
set_insert [] i a b lt = absurd (omega arith)
set_insert (x ∷ xs) zero a b lt = refl
set_insert (x ∷ xs) (suc i) a b lt = ap (λ (t : List _). x ∷ t) (set_insert xs i a b (omega arith))

set_set : {X : Type 0} (xs : List X) (i : ℕ) (a b : X) → suc i < length xs → set (set xs i a) (suc i) b ≡ take i xs ++ (a ∷ b ∷ drop (suc (suc i)) xs)
set_set [] i a b lt = absurd (omega arith)
set_set (x ∷ []) i a b lt = absurd (omega arith)
set_set (x ∷ y ∷ xs) zero a b lt = refl
set_set (x ∷ y ∷ xs) (suc i) a b lt = ap (λ (t : List _). x ∷ t) (set_set (y ∷ xs) i a b (omega arith))

one_more : (i : ℕ) → i + 1 ≡ suc i
one_more i = omega arith

two_more : (i : ℕ) → i + 2 ≡ suc (suc i)
two_more i = omega arith

module _ {K : Type 0} (xs : List (Block K)) (i : ℕ) (p : Block K × Option (Block K)) where
  pub put_one : p.1 ≡ None → i < length xs → set xs i p.0 ≡ take i xs ++ (pair_blocks p ++ drop (i + 1) xs)
  put_one e lt = set_split xs i p.0 lt ∙ ap (λ (q : List (Block K)). take i xs ++ (q ++ drop (suc i) xs)) (sym (pair-none p e)) ∙ ap (λ (j : ℕ). take i xs ++ (pair_blocks p ++ drop j xs)) (sym (one_more i))

  pub put_both : (b : Block K) → p.1 ≡ Some b → i < length xs → set (insert xs (i + 1) b) i p.0 ≡ take i xs ++ (pair_blocks p ++ drop (i + 1) xs)
  put_both b e lt = ap (λ (j : ℕ). set (insert xs j b) i p.0) (one_more i) ∙ set_insert xs i p.0 b lt ∙ ap (λ (q : List (Block K)). take i xs ++ (q ++ drop (suc i) xs)) (sym (pair-some p b e)) ∙ ap (λ (j : ℕ). take i xs ++ (pair_blocks p ++ drop j xs)) (sym (one_more i))

  pub put_over : (b : Block K) → p.1 ≡ Some b → i + 1 < length xs → set (set xs i p.0) (i + 1) b ≡ take i xs ++ (pair_blocks p ++ drop (i + 2) xs)
  put_over b e lt = ap (λ (j : ℕ). set (set xs i p.0) j b) (one_more i) ∙ set_set xs i p.0 b (omega arith) ∙ ap (λ (q : List (Block K)). take i xs ++ (q ++ drop (suc (suc i)) xs)) (sym (pair-some p b e)) ∙ ap (λ (j : ℕ). take i xs ++ (pair_blocks p ++ drop j xs)) (sym (two_more i))
