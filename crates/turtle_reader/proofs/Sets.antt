-- A set has one ascending list.
use Rattle.std.proofs.Common.{◌≡◌, ◌∙◌, List, [], ◌∷◌, refl, sym, subst, ap, arith, inl, inr}
use Rattle.std.specs.Prelude.{◌⊎◌, ◌↔◌}
use Rattle.std.specs.List.{Contains}
use Rattle.std.proofs.lemmas.List.Elements.{Contains-append_cases, Contains-append_right, Contains-push_cases}
use Rattle.std.specs.declared.cmp.Ordering.{Ordering}
use Rattle.std.specs.declared.cmp.Ordering.TheVariants.{Less, Equal, Greater}
use Rattle.std.specs.Ordering.{match_ordering, ordering_reverse}
use Rattle.std.specs.Cmp.{IsTotalOrder, tied_itself}
use Rattle.collections.specs.Ordered.{AllAbove, IsAscending, with_item}

pub has_cases : {X : Type 0} → (y : X) (ys : List X) (x : X) → Contains (y ∷ ys) x → (y ≡ x) ⊎ Contains ys x
has_cases y ys x c = elim (Contains-append_cases (y ∷ []) ys x c) [
  | inl d ↦ elim (Contains-push_cases [] y x d) [ inl e ↦ absurd (omega arith) | inr e ↦ inl e ]
  | inr d ↦ inr d
]

pub has_head : {X : Type 0} → (x : X) (xs : List X) → Contains (x ∷ xs) x
has_head x xs = (0, omega arith, refl)

pub has_tail : {X : Type 0} → (y : X) (xs : List X) (x : X) → Contains xs x → Contains (y ∷ xs) x
has_tail y xs x c = Contains-append_right (y ∷ []) xs x c

pub has_this : {X : Type 0} → (y : X) (ys : List X) (x : X) → y ≡ x → Contains (y ∷ ys) x
has_this y ys x e = subst (λ w. Contains (y ∷ ys) w) e (has_head y ys)

below : {X : Type 0} → (R : X → X → Ordering) (y : X) (ys : List X) (x : X) → AllAbove R y ys → Contains ys x → R y x ≡ Less
below R y [] x a c = absurd (omega arith)
below R y (z ∷ zs) x a c = elim (has_cases z zs x c) [ inl e ↦ subst (λ w. R y w ≡ Less) e a.0 | inr d ↦ below R y zs x a.1 d ]

module _ {X : Type 0} (R : X → X → Ordering) (total : IsTotalOrder R) where
  not_both : (x y : X) → R x y ≡ Less → R y x ≡ Less → ⊥
  not_both x y p q = let e = total.antisymm x y in let k = ap ordering_reverse q in cc (e, k)

  not_itself : (x y : X) → x ≡ y → R x y ≡ Less → ⊥
  not_itself x y e p = let k = tied_itself total x in let m : R x x ≡ Less = subst (λ w. R x w ≡ Less) (sym e) p in cc (k, m)

  heads : (x y : X) (xs ys : List X) → AllAbove R x xs → AllAbove R y ys → Contains (y ∷ ys) x → Contains (x ∷ xs) y → x ≡ y
  heads x y xs ys a b c d = elim (has_cases y ys x c) [
    | inl e ↦ sym e
    | inr i ↦ elim (has_cases x xs y d) [ inl e ↦ e | inr j ↦ absurd (not_both x y (below R x xs y a j) (below R y ys x b i)) ]
  ]

  rest : (x y : X) (xs ys : List X) → x ≡ y → AllAbove R x xs → ((w : X) → Contains (x ∷ xs) w → Contains (y ∷ ys) w) → (w : X) → Contains xs w → Contains ys w
  rest x y xs ys e a to w c = elim (has_cases y ys w (to w (has_tail x xs w c))) [ inl d ↦ absurd (not_itself x w (e ∙ d) (below R x xs w a c)) | inr d ↦ d ]

  pub same_lists : (xs ys : List X) → IsAscending R xs → IsAscending R ys → ((w : X) → Contains xs w ↔ Contains ys w) → xs ≡ ys
  same_lists [] [] a b e = refl
  same_lists [] (y ∷ ys) a b e = let c = (e y).1 (has_head y ys) in absurd (omega arith)
  same_lists (x ∷ xs) [] a b e = let c = (e x).0 (has_head x xs) in absurd (omega arith)
  same_lists (x ∷ xs) (y ∷ ys) a b e =
      let head : x ≡ y = heads x y xs ys a.0 b.0 ((e x).0 (has_head x xs)) ((e y).1 (has_head y ys)) in
      let tail : xs ≡ ys = same_lists xs ys a.1 b.1 (λ w. (rest x y xs ys head a.0 (λ w c. (e w).0 c) w, rest y x ys xs (sym head) b.0 (λ w c. (e w).1 c) w)) in
      cc (head, tail)

  -- the members of a set with one more
  module _ (exact : (x y : X) → R x y ≡ Equal → x ≡ y) where
    pub with_old : (x : X) (ys : List X) (w : X) → Contains ys w → Contains (with_item R x ys) w
    with_old x [] w c = absurd (omega arith)
    with_old x (y ∷ ys) w c = elim (R x y) as (λ o. Contains (match_ordering o (x ∷ y ∷ ys) (y ∷ ys) (y ∷ with_item R x ys)) w) [
      | Less ↦ has_tail x (y ∷ ys) w c
      | Equal ↦ c
      | Greater ↦ elim (has_cases y ys w c) [ inl e ↦ has_this y (with_item R x ys) w e | inr d ↦ has_tail y (with_item R x ys) w (with_old x ys w d) ]
    ]

    pub with_new : (x : X) (ys : List X) → Contains (with_item R x ys) x
    with_new x [] = has_head x []
    with_new x (y ∷ ys) = elim (R x y) as (λ o. R x y ≡ o → Contains (match_ordering o (x ∷ y ∷ ys) (y ∷ ys) (y ∷ with_item R x ys)) x) [
      | Less ↦ λ h. has_head x (y ∷ ys)
      | Equal ↦ λ h. has_this y ys x (sym (exact x y h))
      | Greater ↦ λ h. has_tail y (with_item R x ys) x (with_new x ys)
    ] refl

    pub with_cases : (x : X) (ys : List X) (w : X) → Contains (with_item R x ys) w → (x ≡ w) ⊎ Contains ys w
    with_cases x [] w c = has_cases x [] w c
    with_cases x (y ∷ ys) w c = elim (R x y) as (λ o. Contains (match_ordering o (x ∷ y ∷ ys) (y ∷ ys) (y ∷ with_item R x ys)) w → (x ≡ w) ⊎ Contains (y ∷ ys) w) [
      | Less ↦ λ d. has_cases x (y ∷ ys) w d
      | Equal ↦ λ d. inr d
      | Greater ↦ λ d. elim (has_cases y (with_item R x ys) w d) [
        | inl e ↦ inr (has_this y ys w e)
        | inr k ↦ elim (with_cases x ys w k) [ inl e ↦ inl e | inr m ↦ inr (has_tail y ys w m) ]
      ]
    ] c
