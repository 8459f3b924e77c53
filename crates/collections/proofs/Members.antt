-- What stands in ascending lists: two with the same items are one, and what stands in one with an item more or less.
use Rattle.std.proofs.Common.{◌≡◌, ◌∙◌, List, [], ◌∷◌, refl, sym, subst, ap, arith, inl, inr}
use Rattle.std.specs.Prelude.{◌⊎◌, ◌↔◌}
use Rattle.std.specs.List.{Contains}
use Rattle.std.proofs.lemmas.List.Elements.{Contains-append_cases, Contains-append_right, Contains-push_cases}
use Rattle.std.specs.declared.cmp.Ordering.{Ordering}
use Rattle.std.specs.declared.cmp.Ordering.TheVariants.{Less, Equal, Greater}
use Rattle.std.specs.Ordering.{ordering_reverse, match_ordering}
use Rattle.std.specs.Cmp.{IsTotalOrder, tied_itself}
use Rattle.collections.specs.Ordered.{AllAbove, IsAscending, with_item, without_item}

pub has_cases : {X : Type 0} → (y : X) (ys : List X) (x : X) → Contains (y ∷ ys) x → (y ≡ x) ⊎ Contains ys x
has_cases y ys x c = elim (Contains-append_cases (y ∷ []) ys x c) [
  | inl d ↦ elim (Contains-push_cases [] y x d) [ inl e ↦ absurd (omega arith) | inr e ↦ inl e ]
  | inr d ↦ inr d
]

pub has_head : {X : Type 0} → (x : X) (xs : List X) → Contains (x ∷ xs) x
has_head x xs = (0, omega arith, refl)

pub has_equal : {X : Type 0} → (y : X) (ys : List X) (x : X) → y ≡ x → Contains (y ∷ ys) x
has_equal y ys x e = (0, omega arith, e)

pub has_tail : {X : Type 0} → (y : X) (xs : List X) (x : X) → Contains xs x → Contains (y ∷ xs) x
has_tail y xs x c = Contains-append_right (y ∷ []) xs x c

pub below : {X : Type 0} → (R : X → X → Ordering) (y : X) (ys : List X) (x : X) → AllAbove R y ys → Contains ys x → R y x ≡ Less
below R y [] x a c = absurd (omega arith)
below R y (z ∷ zs) x a c = elim (has_cases z zs x c) [ inl e ↦ subst (λ w. R y w ≡ Less) e a.0 | inr d ↦ below R y zs x a.1 d ]

module _ {X : Type 0} (R : X → X → Ordering) (total : IsTotalOrder R) where
  not_both : (x y : X) → R x y ≡ Less → R y x ≡ Less → ⊥
  not_both x y p q = let e = total.antisymm x y in let k = ap ordering_reverse q in cc (e, k)

  not_itself : (x y : X) → x ≡ y → R x y ≡ Less → ⊥
  not_itself x y e p = let k = tied_itself total x in let m : R x x ≡ Less = subst (λ w. R x w ≡ Less) (sym e) p in cc (k, m)

  heads : (x y : X) (xs ys : List X) → AllAbove R x xs → AllAbove R y ys → Contains (y ∷ ys) x → Contains (x ∷ xs) y → x ≡ y
  heads x y xs ys a b c d = elim (has_cases y ys x c) [
    | inl e ↦ sym e
    | inr i ↦ elim (has_cases x xs y d) [ inl e ↦ e | inr j ↦ absurd (not_both x y (below R x xs y a j) (below R y ys x b i)) ]
  ]

  rest : (x y : X) (xs ys : List X) → x ≡ y → AllAbove R x xs → ((w : X) → Contains (x ∷ xs) w → Contains (y ∷ ys) w) → (w : X) → Contains xs w → Contains ys w
  rest x y xs ys e a to w c = elim (has_cases y ys w (to w (has_tail x xs w c))) [ inl d ↦ absurd (not_itself x w (e ∙ d) (below R x xs w a c)) | inr d ↦ d ]

  pub same_lists : (xs ys : List X) → IsAscending R xs → IsAscending R ys → ((w : X) → Contains xs w ↔ Contains ys w) → xs ≡ ys
  same_lists [] [] a b e = refl
  same_lists [] (y ∷ ys) a b e = let c = (e y).1 (has_head y ys) in absurd (omega arith)
  same_lists (x ∷ xs) [] a b e = let c = (e x).0 (has_head x xs) in absurd (omega arith)
  same_lists (x ∷ xs) (y ∷ ys) a b e =
      let head : x ≡ y = heads x y xs ys a.0 b.0 ((e x).0 (has_head x xs)) ((e y).1 (has_head y ys)) in
      let tail : xs ≡ ys = same_lists xs ys a.1 b.1 (λ w. (rest x y xs ys head a.0 (λ w c. (e w).0 c) w, rest y x ys xs (sym head) b.0 (λ w c. (e w).1 c) w)) in
      cc (head, tail)

-- what stands in a list with one item more
pub with_cases : {X : Type 0} → (R : X → X → Ordering) (x : X) (ys : List X) (t : X) → Contains (with_item R x ys) t → (x ≡ t) ⊎ Contains ys t
with_cases R x [] t c = has_cases x [] t c
with_cases R x (y ∷ ys) t c = elim (R x y) as (λ o. Contains (match_ordering o (x ∷ y ∷ ys) (y ∷ ys) (y ∷ with_item R x ys)) t → (x ≡ t) ⊎ Contains (y ∷ ys) t) [
  | Less ↦ λ d. has_cases x (y ∷ ys) t d
  | Equal ↦ λ d. inr d
  | Greater ↦ λ d. elim (has_cases y (with_item R x ys) t d) [
    | inl e ↦ inr (has_equal y ys t e)
    | inr k ↦ elim (with_cases R x ys t k) [ inl e ↦ inl e | inr l ↦ inr (has_tail y ys t l) ]
  ]
] c

pub with_old : {X : Type 0} → (R : X → X → Ordering) (x : X) (ys : List X) (t : X) → Contains ys t → Contains (with_item R x ys) t
with_old R x [] t c = has_tail x [] t c
with_old R x (y ∷ ys) t c = elim (R x y) as (λ o. Contains (match_ordering o (x ∷ y ∷ ys) (y ∷ ys) (y ∷ with_item R x ys)) t) [
  | Less ↦ has_tail x (y ∷ ys) t c
  | Equal ↦ c
  | Greater ↦ elim (has_cases y ys t c) [ inl e ↦ has_equal y (with_item R x ys) t e | inr d ↦ has_tail y (with_item R x ys) t (with_old R x ys t d) ]
]

-- what stands in a list with one item less
pub without_old : {X : Type 0} → (R : X → X → Ordering) (x : X) (ys : List X) (t : X) → Contains (without_item R x ys) t → Contains ys t
without_old R x [] t c = c
without_old R x (y ∷ ys) t c = elim (R x y) as (λ o. Contains (match_ordering o (y ∷ ys) ys (y ∷ without_item R x ys)) t → Contains (y ∷ ys) t) [
  | Less ↦ λ d. d
  | Equal ↦ λ d. has_tail y ys t d
  | Greater ↦ λ d. elim (has_cases y (without_item R x ys) t d) [ inl e ↦ has_equal y ys t e | inr k ↦ has_tail y ys t (without_old R x ys t k) ]
] c

module _ {X : Type 0} (R : X → X → Ordering) (total : IsTotalOrder R) (exact : (a b : X) → R a b ≡ Equal → a ≡ b) where
  pub with_new : (x : X) (ys : List X) → Contains (with_item R x ys) x
  with_new x [] = has_head x []
  with_new x (y ∷ ys) = elim (R x y) as (λ o. R x y ≡ o → Contains (match_ordering o (x ∷ y ∷ ys) (y ∷ ys) (y ∷ with_item R x ys)) x) [
    | Less ↦ λ h. has_head x (y ∷ ys)
    | Equal ↦ λ h. has_equal y ys x (sym (exact x y h))
    | Greater ↦ λ h. has_tail y (with_item R x ys) x (with_new x ys)
  ] refl

  pub without_new : (x : X) (ys : List X) (t : X) → Contains ys t → (x ≡ t → ⊥) → Contains (without_item R x ys) t
  without_new x [] t c n = c
  without_new x (y ∷ ys) t c n = elim (R x y) as (λ o. R x y ≡ o → Contains (match_ordering o (y ∷ ys) ys (y ∷ without_item R x ys)) t) [
    | Less ↦ λ h. c
    | Equal ↦ λ h. elim (has_cases y ys t c) [ inl e ↦ absurd (n (exact x y h ∙ e)) | inr d ↦ d ]
    | Greater ↦ λ h. elim (has_cases y ys t c) [ inl e ↦ has_equal y (without_item R x ys) t e | inr d ↦ has_tail y (without_item R x ys) t (without_new x ys t d n) ]
  ] refl

  tied : (x y : X) → y ≡ x → R x y ≡ Equal
  tied x y e = subst (λ w. R x w ≡ Equal) (sym e) (tied_itself total x)

  pub without_gone : (x : X) (ys : List X) → IsAscending R ys → Contains (without_item R x ys) x → ⊥
  without_gone x [] a c = absurd (omega arith)
  without_gone x (y ∷ ys) a c = elim (R x y) as (λ o. R x y ≡ o → Contains (match_ordering o (y ∷ ys) ys (y ∷ without_item R x ys)) x → ⊥) [
    | Less ↦ λ h d. elim (has_cases y ys x d) [ inl e ↦ let k = tied x y e in cc (h, k) | inr i ↦ not_both R total x y h (below R y ys x a.0 i) ]
    | Equal ↦ λ h d. not_itself R total y x (sym (exact x y h)) (below R y ys x a.0 d)
    | Greater ↦ λ h d. elim (has_cases y (without_item R x ys) x d) [ inl e ↦ let k = tied x y e in cc (h, k) | inr i ↦ without_gone x ys a.1 i ]
  ] refl c

  -- two sets that agree on t do so with an item more or less
  pub with_same : (x : X) (ys zs : List X) (t : X) → Contains ys t ↔ Contains zs t → Contains (with_item R x ys) t ↔ Contains (with_item R x zs) t
  with_same x ys zs t e = (to ys zs (λ c. e.0 c), to zs ys (λ c. e.1 c))
    where
      to : (us vs : List X) → (Contains us t → Contains vs t) → Contains (with_item R x us) t → Contains (with_item R x vs) t
      to us vs k c = elim (with_cases R x us t c) [ inl d ↦ subst (λ (w : X). Contains (with_item R x vs) w) d (with_new x vs) | inr d ↦ with_old R x vs t (k d) ]

  pub without_same : (x : X) (ys zs : List X) (t : X) → IsAscending R ys → IsAscending R zs → Contains ys t ↔ Contains zs t → Contains (without_item R x ys) t ↔ Contains (without_item R x zs) t
  without_same x ys zs t a b e = (to ys zs a (λ c. e.0 c), to zs ys b (λ c. e.1 c))
    where
      to : (us vs : List X) → IsAscending R us → (Contains us t → Contains vs t) → Contains (without_item R x us) t → Contains (without_item R x vs) t
      to us vs a k c = without_new x vs t (k (without_old R x us t c)) (λ d. without_gone x us a (subst (λ (w : X). Contains (without_item R x us) w) (sym d) c))

  -- one item more or less is no matter to the others
  pub with_other : (x : X) (ys : List X) (t : X) → (x ≡ t → ⊥) → Contains ys t ↔ Contains (with_item R x ys) t
  with_other x ys t n = (λ c. with_old R x ys t c, λ c. elim (with_cases R x ys t c) [ inl d ↦ absurd (n d) | inr d ↦ d ])

  pub without_other : (x : X) (ys : List X) (t : X) → (x ≡ t → ⊥) → Contains ys t ↔ Contains (without_item R x ys) t
  without_other x ys t n = (λ c. without_new x ys t c n, λ c. without_old R x ys t c)
