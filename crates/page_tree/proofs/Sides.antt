-- Pages side by side, in parts.
use Rattle.std.proofs.Common.{◌≡◌, ◌∙◌, ℕ, ◌+◌, ◌<◌, ◌≤◌, List, [], ◌∷◌, ◌++◌, length, take, drop, refl, sym, subst, ap, arith, append_assoc, append-nil, length-append, take-append-drop}
use Rattle.std.specs.Prelude.{Option, Result, Some, IfOk}
use Rattle.std.specs.declared.cmp.Ordering.{Ordering}
use Rattle.collections.specs.Ordered.{IsAscending}
use Rattle.page_tree.specs.Blocks.{Block, IsBelow, AreBelow, AreSound, IsParted, keys_of, height_of, first_of, pair_blocks, least, most}
use Rattle.page_tree.proofs.Keys.{ascending-left, ascending-right}

pub keys-append : {K : Type 0} (fs bs : List (Block K)) → keys_of (fs ++ bs) ≡ keys_of fs ++ keys_of bs
keys-append [] bs = refl
keys-append (a ∷ fs) bs = ap (λ (t : List _). a.page.keys ++ t) (keys-append fs bs) ∙ sym (append_assoc a.page.keys (keys_of fs) (keys_of bs))

pub keys-parts : {K : Type 0} (i : ℕ) (bs : List (Block K)) → keys_of (take i bs) ++ keys_of (drop i bs) ≡ keys_of bs
keys-parts i bs = sym (keys-append (take i bs) (drop i bs)) ∙ ap keys_of (take-append-drop i bs)

pub below-append : {K : Type 0} (h : ℕ) (fs bs : List (Block K)) → AreBelow h fs → AreBelow h bs → AreBelow h (fs ++ bs)
below-append h [] bs a b = b
below-append h (c ∷ fs) bs a b = (a.0, below-append h fs bs a.1 b)

pub below-left : {K : Type 0} (h : ℕ) (fs bs : List (Block K)) → AreBelow h (fs ++ bs) → AreBelow h fs
below-left h [] bs a = tt
below-left h (c ∷ fs) bs a = (a.0, below-left h fs bs a.1)

pub below-right : {K : Type 0} (h : ℕ) (fs bs : List (Block K)) → AreBelow h (fs ++ bs) → AreBelow h bs
below-right h [] bs a = a
below-right h (c ∷ fs) bs a = below-right h fs bs a.1

pub below-take : {K : Type 0} (h i : ℕ) (bs : List (Block K)) → AreBelow h bs → AreBelow h (take i bs)
below-take h i bs b = below-left h (take i bs) (drop i bs) (subst (λ (cs : List _). AreBelow h cs) (sym (take-append-drop i bs)) b)

pub below-drop : {K : Type 0} (h i : ℕ) (bs : List (Block K)) → AreBelow h bs → AreBelow h (drop i bs)
below-drop h i bs b = below-right h (take i bs) (drop i bs) (subst (λ (cs : List _). AreBelow h cs) (sym (take-append-drop i bs)) b)

pub height-is : {K : Type 0} (h : ℕ) (bs : List (Block K)) → AreBelow h bs → 0 < length bs → height_of bs ≡ h
height-is h [] b lt = absurd (omega arith)
height-is h (c ∷ bs) b lt = b.0.level

length-keys : {K : Type 0} (c : Block K) → first_of c.page.keys ≡ Some c.low → 0 < length c.page.keys
length-keys c e = some (c.page.keys) e
  where
    some : (ks : List _) → first_of ks ≡ Some c.low → 0 < length ks
    some [] e = cc
    some (k ∷ ks) e = omega arith

-- there are as many keys as pages, or more
pub width-le-keys : {K : Type 0} (h : ℕ) (bs : List (Block K)) → AreBelow h bs → length bs ≤ length (keys_of bs)
width-le-keys h [] b = omega arith
width-le-keys h (c ∷ bs) b = let ih = width-le-keys h bs b.1 in let one = length-keys c b.0.first in omega (arith, length-append c.page.keys (keys_of bs))

module _ {K : Type 0} (R : K → K → Ordering) where
  pub sound-own : (h : ℕ) (bs : List (Block K)) → AreSound R h bs → AreSound R (height_of bs) bs
  sound-own h [] s = record { ascending = tt; below = tt }
  sound-own h (b ∷ bs) s = subst (λ (n : ℕ). AreSound R n (b ∷ bs)) (sym s.below.0.level) s

  pub sound-take : (h i : ℕ) (bs : List (Block K)) → AreSound R h bs → AreSound R (height_of (take i bs)) (take i bs)
  sound-take h i bs s = sound-own h (take i bs) (record {
    ascending = ascending-left R (keys_of (take i bs)) (keys_of (drop i bs)) (subst (λ (ks : List K). IsAscending R ks) (sym (keys-parts i bs)) s.ascending);
    below = below-take h i bs s.below;
  })

  pub sound-drop : (h i : ℕ) (bs : List (Block K)) → AreSound R h bs → AreSound R (height_of (drop i bs)) (drop i bs)
  sound-drop h i bs s = sound-own h (drop i bs) (record {
    ascending = ascending-right R (keys_of (take i bs)) (keys_of (drop i bs)) (subst (λ (ks : List K). IsAscending R ks) (sym (keys-parts i bs)) s.ascending);
    below = below-drop h i bs s.below;
  })

  pub ascending-take : (i : ℕ) (ks : List K) → IsAscending R ks → IsAscending R (take i ks)
  ascending-take i ks s = ascending-left R (take i ks) (drop i ks) (subst (λ (ls : List K). IsAscending R ls) (sym (take-append-drop i ks)) s)

  pub ascending-drop : (i : ℕ) (ks : List K) → IsAscending R ks → IsAscending R (drop i ks)
  ascending-drop i ks s = ascending-right R (take i ks) (drop i ks) (subst (λ (ls : List K). IsAscending R ls) (sym (take-append-drop i ks)) s)

-- two pages over the two parts of a list have its keys, and stand one above it
pub pair-keys : {K : Type 0} (i : ℕ) (bs fs ls : List (Block K)) (a b : List K) → fs ≡ take i bs → ls ≡ drop i bs → a ≡ keys_of fs → b ≡ keys_of ls → a ++ (b ++ []) ≡ keys_of bs
pair-keys i bs fs ls a b f l p q = let e = append-nil b in let k = keys-parts i bs in cc (p, q, ap keys_of f, ap keys_of l, e, k)

pub part-height : {K : Type 0} (h : ℕ) (bs fs : List (Block K)) (c : Block K) → AreBelow h fs → 0 < length fs → height_of bs ≡ h → AreBelow (height_of fs + 1) (c ∷ []) → IsBelow (height_of bs + 1) c
part-height h bs fs c b lt e a = subst (λ (n : ℕ). IsBelow (n + 1) c) (height-is h fs b lt ∙ sym e) a.0

module _ {K : Type 0} (R : K → K → Ordering) (h : ℕ) (ks : List K) (s : IsAscending R ks) where
  -- two pages of the two parts of these keys
  pub parted-two : (a b : Block K) → a.page.keys ++ (b.page.keys ++ []) ≡ ks → IsBelow h a → IsBelow h b → (least < a.page.width) × (a.page.width < most) → (least < b.page.width) × (b.page.width < most) → IsParted R h ks (a ∷ b ∷ [])
  parted-two a b e p q r t = record { keys_are = e; sound = record { ascending = subst (λ (ls : List K). IsAscending R ls) (sym e) s; below = (p, (q, tt)) }; roomy = (r, (t, tt)) }

-- the same of equal keys and of an equal height
pub parted-as : {K E : Type 0} (R : K → K → Ordering) (h g : ℕ) (ks ls : List K) (r : Result (Block K × Option (Block K)) E) → h ≡ g → ks ≡ ls → IfOk r (λ q. IsParted R h ks (pair_blocks q)) → IfOk r (λ q. IsParted R g ls (pair_blocks q))
parted-as {K} {E} R h g ks ls r e k i = subst (λ (n : ℕ). IfOk r (λ (q : Block K × Option (Block K)). IsParted R n ls (pair_blocks q))) e (subst (λ (ms : List K). IfOk r (λ (q : Block K × Option (Block K)). IsParted R h ms (pair_blocks q))) k i)
