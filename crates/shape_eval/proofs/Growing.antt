-- Lists that take what the items of another list ask for, item by item.
use Rattle.std.proofs.Common.{◌≡◌, ◌∙◌, ℕ, ◌+◌, ◌<◌, ◌≤◌, List, [], ◌∷◌, ◌++◌, length, map, take, get_or, refl, sym, ap, arith, subst, inl, inr}
use Rattle.std.specs.Prelude.{◌⊎◌, ◌↔◌}
use Rattle.std.specs.List.{Contains}
use Rattle.std.proofs.lemmas.List.{take_more, take_all, map-append}
use Rattle.std.proofs.lemmas.List.Elements.{Contains-append_left, Contains-append_right, Contains-append_cases}
use Rattle.collections.proofs.Members.{has_cases, has_equal}

-- some item of the list asks for it
abbrev pub Some_of : {X Y : Type 0} → List X → (X → Y → Type 0) → Y → Type 0
Some_of xs R y = (x : _) × Contains xs x × R x y

pub joined : {X : Type 0} → (xs : List X) (i : ℕ) (d : X) → i < length xs → (y : X) → Contains (take (i + 1) xs) y ↔ (Contains (take i xs) y ⊎ (get_or xs i d ≡ y))
joined {X} xs i d lt y = subst (λ (ys : List X). Contains ys y ↔ (Contains (take i xs) y ⊎ (get_or xs i d ≡ y))) (sym (take_more xs i d lt)) (
  λ c. elim (Contains-append_cases (take i xs) (get_or xs i d ∷ []) y c) [
    | inl e ↦ inl e
    | inr e ↦ elim (has_cases (get_or xs i d) [] y e) [ inl k ↦ inr k | inr never ↦ absurd (omega arith) ]
  ],
  λ c. elim c [
    | inl e ↦ Contains-append_left (take i xs) (get_or xs i d ∷ []) y e
    | inr e ↦ Contains-append_right (take i xs) (get_or xs i d ∷ []) y (has_equal (get_or xs i d) [] y e)
  ],
)

-- one item more
pub some_more : {X Y : Type 0} → (R : X → Y → Type 0) (xs : List X) (i : ℕ) (d : X) → i < length xs → (mid new : List Y) → ((y : Y) → Contains mid y ↔ Some_of (take i xs) R y)
    → ((y : Y) → Contains new y ↔ (Contains mid y ⊎ R (get_or xs i d) y)) → (y : Y) → Contains new y ↔ Some_of (take (i + 1) xs) R y
some_more {X} {Y} R xs i d lt mid new h k y = (
  λ c. elim ((k y).0 c) [
    | inl e ↦ (let m = (h y).0 e in (m.0, (joined xs i d lt m.0).1 (inl m.1), m.2))
    | inr r ↦ (get_or xs i d, (joined xs i d lt (get_or xs i d)).1 (inr refl), r)
  ],
  λ m. (k y).1 (elim ((joined xs i d lt m.0).0 m.1) [
    | inl e ↦ inl ((h y).1 (m.0, e, m.2))
    | inr e ↦ inr (subst (λ (x : X). R x y) (sym e) m.2)
  ]),
)

pub some_all : {X Y : Type 0} → (R : X → Y → Type 0) (xs : List X) (i : ℕ) → length xs ≤ i → (found : List Y) → ((y : Y) → Contains found y ↔ Some_of (take i xs) R y) → (y : Y) → Contains found y ↔ Some_of xs R y
some_all {X} {Y} R xs i le found h y = subst (λ (ys : List X). Contains found y ↔ Some_of ys R y) (take_all i xs le) (h y)

pub some_none : {X Y : Type 0} → (R : X → Y → Type 0) (y : Y) → Contains [] y ↔ Some_of [] R y
some_none R y = (λ c. absurd (omega arith), λ m. (let c = m.1 in absurd (omega arith)))

-- items beside those that were there before
pub beside_more : {X : Type 0} → (xs : List X) (i : ℕ) (d : X) → i < length xs → (old mid new : List X) → ((y : X) → Contains mid y ↔ (Contains old y ⊎ Contains (take i xs) y))
    → ((y : X) → Contains new y ↔ (Contains mid y ⊎ (get_or xs i d ≡ y))) → (y : X) → Contains new y ↔ (Contains old y ⊎ Contains (take (i + 1) xs) y)
beside_more xs i d lt old mid new h k y = (
  λ c. elim ((k y).0 c) [
    | inl e ↦ elim ((h y).0 e) [ inl o ↦ inl o | inr t ↦ inr ((joined xs i d lt y).1 (inl t)) ]
    | inr e ↦ inr ((joined xs i d lt y).1 (inr e))
  ],
  λ c. (k y).1 (elim c [
    | inl o ↦ inl ((h y).1 (inl o))
    | inr t ↦ elim ((joined xs i d lt y).0 t) [ inl e ↦ inl ((h y).1 (inr e)) | inr e ↦ inr e ]
  ]),
)

pub beside_all : {X : Type 0} → (xs : List X) (i : ℕ) → length xs ≤ i → (old new : List X) → ((y : X) → Contains new y ↔ (Contains old y ⊎ Contains (take i xs) y)) → (y : X) → Contains new y ↔ (Contains old y ⊎ Contains xs y)
beside_all {X} xs i le old new h y = subst (λ (ys : List X). Contains new y ↔ (Contains old y ⊎ Contains ys y)) (take_all i xs le) (h y)

-- a list that is made item by item
pub mapped_more : {X Y Z : Type 0} → (v : Z → Y) (h : X → Y) (xs : List X) (i : ℕ) (d : X) → i < length xs → (made new : List Z) (z : Z) → map v made ≡ map h (take i xs) → new ≡ made ++ z ∷ [] → v z ≡ h (get_or xs i d)
    → map v new ≡ map h (take (i + 1) xs)
mapped_more v h xs i d lt made new z before is e =
    ap (map v) is ∙ map-append v made (z ∷ []) ∙ (λ j. before j ++ e j ∷ []) ∙ sym (ap (map h) (take_more xs i d lt) ∙ map-append h (take i xs) (get_or xs i d ∷ []))

pub mapped_all : {X Y : Type 0} → (h : X → Y) (xs : List X) (i : ℕ) → length xs ≤ i → (made : List Y) → made ≡ map h (take i xs) → made ≡ map h xs
mapped_all h xs i le made e = e ∙ ap (map h) (take_all i xs le)

pub beside_both : {X : Type 0} → (old mid new : List X) (P Q : X → Type 0) → ((y : X) → Contains mid y ↔ (Contains old y ⊎ P y)) → ((y : X) → Contains new y ↔ (Contains mid y ⊎ Q y))
    → (y : X) → Contains new y ↔ (Contains old y ⊎ (P y ⊎ Q y))
beside_both old mid new P Q h k y = (
  λ c. elim ((k y).0 c) [
    | inl e ↦ elim ((h y).0 e) [ inl o ↦ inl o | inr p ↦ inr (inl p) ]
    | inr q ↦ inr (inr q)
  ],
  elim [
    | inl o ↦ (k y).1 (inl ((h y).1 (inl o)))
    | inr (inl p) ↦ (k y).1 (inl ((h y).1 (inr p)))
    | inr (inr q) ↦ (k y).1 (inr q)
  ],
)

pub with_none : {X : Type 0} → (old : List X) (P : X → Type 0) → ((y : X) → P y → ⊥) → (y : X) → Contains old y ↔ (Contains old y ⊎ P y)
with_none old P none y = ((λ c. inl c), elim [ inl c ↦ c | inr p ↦ absurd (none y p) ])

pub only_one : {X : Type 0} → (old new : List X) (x : X) → ((y : X) → Contains new y ↔ (Contains old y ⊎ (x ≡ y))) → (y : X) → Contains new y ↔ (Contains old y ⊎ Contains (x ∷ []) y)
only_one old new x h y = (
  λ c. elim ((h y).0 c) [ inl o ↦ inl o | inr e ↦ inr (has_equal x [] y e) ],
  λ c. (h y).1 (elim c [ inl o ↦ inl o | inr d ↦ elim (has_cases x [] y d) [ inl e ↦ inr e | inr never ↦ absurd (omega arith) ] ]),
)

-- nothing stands in the empty list
pub none_in : {X : Type 0} → (y : X) → Contains [] y → ⊥
none_in y c = omega arith

pub right_same : {X : Type 0} → (old new : List X) (P Q : X → Type 0) → ((y : X) → P y ↔ Q y) → ((y : X) → Contains new y ↔ (Contains old y ⊎ P y)) → (y : X) → Contains new y ↔ (Contains old y ⊎ Q y)
right_same old new P Q e h y = (
  λ c. elim ((h y).0 c) [ inl o ↦ inl o | inr p ↦ inr ((e y).0 p) ],
  elim [ inl o ↦ (h y).1 (inl o) | inr q ↦ (h y).1 (inr ((e y).1 q)) ],
)

-- the items of two lists together
pub either_in : {X : Type 0} → (xs ys all : List X) (P : X → Type 0) → ((y : X) → Contains xs y ↔ P y) → all ≡ xs ++ ys → (y : X) → Contains all y ↔ (P y ⊎ Contains ys y)
either_in {X} xs ys all P h is y = subst (λ (zs : List X). Contains zs y ↔ (P y ⊎ Contains ys y)) (sym is) (
  λ c. elim (Contains-append_cases xs ys y c) [ inl e ↦ inl ((h y).0 e) | inr e ↦ inr e ],
  elim [ inl p ↦ Contains-append_left xs ys y ((h y).1 p) | inr e ↦ Contains-append_right xs ys y e ],
)
