-- What stands in lists that are made of others.
use Rattle.std.proofs.Common.{◌≡◌, List, [], ◌∷◌, ◌++◌, map, true, false, Bool, refl, sym, ap, subst, arith, inl, inr}
use Rattle.std.specs.Prelude.{◌⊎◌, ◌↔◌, ◌||◌}
use Rattle.std.specs.List.{Contains, flat_map, list_any}
use Rattle.std.proofs.lemmas.List.Elements.{Contains-append_cases, Contains-append_left, Contains-append_right}
use Rattle.collections.proofs.Members.{has_cases, has_equal, has_head, has_tail}

pub none_in : {X : Type 0} → (x : X) → Contains [] x → ⊥
none_in x c = absurd (omega arith)

pub listed_one : {X : Type 0} → (y x : X) → Contains (y ∷ []) x ↔ (x ≡ y)
listed_one y x = (λ c. elim (has_cases y [] x c) [ inl e ↦ sym e | inr d ↦ absurd (none_in x d) ], λ e. has_equal y [] x (sym e))

pub listed_both : {X P Q : Type 0} → (xs ys : List X) (x : X) → Contains xs x ↔ P → Contains ys x ↔ Q → Contains (xs ++ ys) x ↔ (P ⊎ Q)
listed_both xs ys x p q = (
  λ c. elim (Contains-append_cases xs ys x c) [ inl d ↦ inl (p.0 d) | inr d ↦ inr (q.0 d) ],
  elim [ inl d ↦ Contains-append_left xs ys x (p.1 d) | inr d ↦ Contains-append_right xs ys x (q.1 d) ],
)

pub listed_reversed : {X P Q : Type 0} → (xs ys : List X) (x : X) → Contains xs x ↔ P → Contains ys x ↔ Q → Contains (xs ++ ys) x ↔ (Q ⊎ P)
listed_reversed xs ys x p q = (
  λ c. elim (Contains-append_cases xs ys x c) [ inl d ↦ inr (p.0 d) | inr d ↦ inl (q.0 d) ],
  elim [ inl d ↦ Contains-append_right xs ys x (q.1 d) | inr d ↦ Contains-append_left xs ys x (p.1 d) ],
)

module _ {X Y : Type 0} (f : X → List Y) where
  pub flat_from : (xs : List X) (y : Y) → Contains (flat_map f xs) y → (x : X) × Contains xs x × Contains (f x) y
  flat_from [] y c = absurd (none_in y c)
  flat_from (x ∷ xs) y c = elim (Contains-append_cases (f x) (flat_map f xs) y c) [
    | inl d ↦ (x, has_head x xs, d)
    | inr d ↦ (let k = flat_from xs y d in (k.0, has_tail x xs k.0 k.1, k.2))
  ]

  pub flat_to : (xs : List X) (x : X) (y : Y) → Contains xs x → Contains (f x) y → Contains (flat_map f xs) y
  flat_to [] x y i c = absurd (none_in x i)
  flat_to (z ∷ xs) x y i c = elim (has_cases z xs x i) [
    | inl e ↦ Contains-append_left (f z) (flat_map f xs) y (subst (λ (w : X). Contains (f w) y) (sym e) c)
    | inr d ↦ Contains-append_right (f z) (flat_map f xs) y (flat_to xs x y d c)
  ]

or_cases : (a b : Bool) → (a || b) ≡ true → (a ≡ true) ⊎ (b ≡ true)
or_cases true b e = inl refl
or_cases false b e = inr e

or_left : (a b : Bool) → a ≡ true → (a || b) ≡ true
or_left true b e = refl
or_left false b e = cc

or_right : (a b : Bool) → b ≡ true → (a || b) ≡ true
or_right true b e = refl
or_right false b e = e

module _ {X : Type 0} (test : X → Bool) where
  pub any_from : (xs : List X) → list_any test xs ≡ true → (x : X) × Contains xs x × (test x ≡ true)
  any_from [] e = cc
  any_from (x ∷ xs) e = elim (or_cases (test x) (list_any test xs) e) [
    | inl k ↦ (x, has_head x xs, k)
    | inr k ↦ (let r = any_from xs k in (r.0, has_tail x xs r.0 r.1, r.2))
  ]

  pub any_to : (xs : List X) (x : X) → Contains xs x → test x ≡ true → list_any test xs ≡ true
  any_to [] x c e = absurd (none_in x c)
  any_to (y ∷ xs) x c e = elim (has_cases y xs x c) [
    | inl k ↦ or_left (test y) (list_any test xs) (subst (λ (z : X). test z ≡ true) (sym k) e)
    | inr d ↦ or_right (test y) (list_any test xs) (any_to xs x d e)
  ]

pub mapped_from : {X Y : Type 0} → (h : X → Y) (xs : List X) (y : Y) → Contains (map h xs) y → (x : X) × Contains xs x × (h x ≡ y)
mapped_from h [] y c = absurd (none_in y c)
mapped_from h (x ∷ xs) y c = elim (has_cases (h x) (map h xs) y c) [
  | inl e ↦ (x, has_head x xs, e)
  | inr d ↦ (let k = mapped_from h xs y d in (k.0, has_tail x xs k.0 k.1, k.2))
]

pub mapped_to : {X Y : Type 0} → (h : X → Y) (xs : List X) (x : X) → Contains xs x → Contains (map h xs) (h x)
mapped_to h [] x c = absurd (none_in x c)
mapped_to h (z ∷ zs) x c = elim (has_cases z zs x c) [ inl e ↦ has_equal (h z) (map h zs) (h x) (ap h e) | inr d ↦ has_tail (h z) (map h zs) (h x) (mapped_to h zs x d) ]
