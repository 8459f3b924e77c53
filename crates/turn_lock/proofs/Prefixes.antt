-- Beginnings of one list, and sums over a list that changes at one place.
use Rattle.std.proofs.Common.{◌≡◌, ℕ, zero, suc, ◌+◌, ◌<◌, ◌≤◌, List, [], ◌∷◌, ◌++◌, length, get_or, set, refl, ap, sym, ◌∙◌, ◌⊎◌, inl, inr, ⊎_elim, cond, arith, append_assoc, length-append}
use mathlib.Core.List.{IsPrefix}
use mathlib.Core.Option.{some, some-injective, some-ne-none}
use lib.ListN.{get_elem?}
use Rattle.std.specs.List.{sum_by}
use Rattle.std.proofs.lemmas.List.Sums.{sum_by-set}
use Rattle.std.proofs.lemmas.List.{append-nil}
use Rattle.std.proofs.lemmas.Bool.{lt-ltb, le-ltb}
use Rattle.turn_lock.specs.History.{longer}

pub prefix_self : {A : Type 0} (xs : List A) → IsPrefix xs xs
prefix_self xs = ([], append-nil xs)

pub prefix_trans : {A : Type 0} (xs ys zs : List A) → IsPrefix xs ys → IsPrefix ys zs → IsPrefix xs zs
prefix_trans xs ys zs p q = (p.0 ++ q.0, sym (append_assoc xs p.0 q.0) ∙ (ap (λ w. w ++ q.0) p.1 ∙ q.1))

-- of two beginnings of one list the shorter begins the longer
pub prefix_shorter : {A : Type 0} (xs ys zs : List A) → IsPrefix xs zs → IsPrefix ys zs → length xs ≤ length ys → IsPrefix xs ys
prefix_shorter [] ys zs p q le = (ys, refl)
prefix_shorter (x ∷ xs) [] zs p q le = absurd (omega arith)
prefix_shorter (x ∷ xs) (y ∷ ys) [] p q le = absurd (cc (p.1))
prefix_shorter (x ∷ xs) (y ∷ ys) (z ∷ zs) p q le =
    let heads : x ≡ y = cc (p.1, q.1) in
    let rest = prefix_shorter xs ys zs (p.0, cc (p.1)) (q.0, cc (q.1)) (omega arith) in
    (rest.0, cc (heads, rest.1))

pub prefix_length : {A : Type 0} (xs ys : List A) → IsPrefix xs ys → length xs ≤ length ys
prefix_length xs ys p = omega (arith, sym (ap length p.1) ∙ length-append xs p.0)

-- a beginning that is as long is the whole list
pub prefix_whole : {A : Type 0} (xs ys : List A) → IsPrefix xs ys → length ys ≤ length xs → xs ≡ ys
prefix_whole [] [] p le = refl
prefix_whole [] (y ∷ ys) p le = absurd (omega arith)
prefix_whole (x ∷ xs) [] p le = absurd (cc (p.1))
prefix_whole (x ∷ xs) (y ∷ ys) p le =
    let rest = prefix_whole xs ys (p.0, cc (p.1)) (omega arith) in cc (p.1, rest)

-- where f of a longer list begins with f of the shorter, and f is the same of two lists, it is the same of one between them
pub same_between : {A : Type 0} (f : List A → List A) → ((xs ys : List A) → IsPrefix (f xs) (f (xs ++ ys)))
    → (a l h : List A) → IsPrefix a l → IsPrefix l h → f h ≡ f a → f l ≡ f a
same_between f grows a l h p q same =
    let lower : IsPrefix (f a) (f l) = let g = grows a p.0 in (g.0, g.1 ∙ ap f p.1) in
    let upper : IsPrefix (f l) (f h) = let g = grows l q.0 in (g.0, g.1 ∙ ap f q.1) in
    prefix_whole (f l) (f h) upper (omega (arith, prefix_length (f a) (f l) lower, ap length same)) ∙ same

-- the longer of two beginnings of a list begins it, is the list where one of them is, and both begin it
pub record Longer {A : Type 0} (f g h : List A) : Type 0 where
  pub begins : IsPrefix (longer f g) h
  pub whole : (f ≡ h) ⊎ (g ≡ h) → longer f g ≡ h
  pub this : IsPrefix f (longer f g)
  pub that : IsPrefix g (longer f g)

pub longer_is : {A : Type 0} (f g h : List A) → IsPrefix f h → IsPrefix g h → Dec (length f < length g) → Longer f g h
longer_is f g h p q (yes d) =
    let e : longer f g ≡ g = ap (λ b. cond b g f) (lt-ltb (length f) (length g) d) in
    let short : f ≡ h → ⊥ = λ same. let a = ap length same in let b = prefix_length g h q in omega arith in record {
      begins = rw e q;
      whole = λ one. ⊎_elim (λ (same : f ≡ h). absurd (short same)) (λ (same : g ≡ h). e ∙ same) one;
      this = rw e (prefix_shorter f g h p q (omega arith));
      that = rw e (prefix_self g);
    }
longer_is f g h p q (no d) =
    let le : length g ≤ length f = omega arith in
    let e : longer f g ≡ f = ap (λ b. cond b g f) (le-ltb (length f) (length g) le) in record {
      begins = rw e p;
      whole = λ one. ⊎_elim (λ (same : f ≡ h). e ∙ same) (λ (same : g ≡ h). e ∙ prefix_whole f h p (let a = ap length same in omega arith)) one;
      this = rw e (prefix_self f);
      that = rw e (prefix_shorter g f h q p le);
    }

pub at_get : {A : Type 0} (l : List A) (i : ℕ) (a : A) → get_elem? l i ≡ some a → (i < length l) × (get_or l i a ≡ a)
at_get [] i a e = absurd (some-ne-none a (sym e))
at_get (x ∷ xs) zero a e = (omega arith, some-injective x a e)
at_get (x ∷ xs) (suc i) a e = let r = at_get xs i a e in (omega arith, r.1)

pub at_end : {A : Type 0} (l : List A) (a b : A) (j : ℕ) → get_elem? (l ++ a ∷ []) j ≡ some b → (get_elem? l j ≡ some b) ⊎ ((j ≡ length l) × (a ≡ b))
at_end [] a b zero e = inr (refl, some-injective a b e)
at_end [] a b (suc j) e = absurd (some-ne-none b (sym e))
at_end (x ∷ xs) a b zero e = inl e
at_end (x ∷ xs) a b (suc j) e = ⊎_elim (λ (t : get_elem? xs j ≡ some b). inl t) (λ (t : (j ≡ length xs) × (a ≡ b)). inr (ap suc t.0, t.1)) (at_end xs a b j e)

pub end_at : {A : Type 0} (l : List A) (a : A) → get_elem? (l ++ a ∷ []) (length l) ≡ some a
end_at [] a = refl
end_at (x ∷ xs) a = end_at xs a

-- a total after a change at one place
pub total_set : {A : Type 0} (f : A → ℕ) (l : List A) (i : ℕ) (a b : A) → get_elem? l i ≡ some a → sum_by f (set l i b) + f a ≡ sum_by f l + f b
total_set f l i a b e = let r = at_get l i a e in sym (ap (λ (x : _). sum_by f (set l i b) + f x) r.1) ∙ sum_by-set f l i b a r.0
