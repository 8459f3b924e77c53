-- Items of a list by their places, and a list with an item more.
use Rattle.std.proofs.Common.{◌≡◌, ◌∙◌, ℕ, zero, suc, ◌+◌, ◌<◌, List, [], ◌∷◌, ◌++◌, length, take, get_or, map, Some, refl, sym, ap, subst, arith, inl, inr}
use Rattle.std.specs.Prelude.{slice_get}
use Rattle.std.specs.List.{Contains}
use Rattle.std.specs.declared.cmp.Ordering.{Ordering}
use Rattle.std.specs.declared.cmp.Ordering.TheVariants.{Less, Equal}
use Rattle.std.specs.Cmp.{IsTotalOrder, tied_itself}
use Rattle.std.proofs.lemmas.List.{map-append, take_more}
use Rattle.std.proofs.lemmas.List.Elements.{Contains-push_cases}
use Rattle.collections.specs.Ordered.{AllAbove, IsAscending}
use Rattle.collections.proofs.Members.{below, has_head, has_tail}

-- places in a list
pub get_read : {X : Type 0} → (xs : List X) (k : ℕ) (x : X) → k < length xs → x ≡ get_or xs k x → slice_get xs k ≡ Some x
get_read [] k x l e = absurd (omega arith)
get_read (y ∷ ys) zero x l e = ap Some (sym e)
get_read (y ∷ ys) (suc k) x l e = get_read ys k x (omega arith) e

pub get_in : {X : Type 0} → (xs : List X) (k : ℕ) (x : X) → slice_get xs k ≡ Some x → Contains xs x
get_in [] k x e = cc
get_in (y ∷ ys) zero x e = let d : y ≡ x = cc in subst (λ w. Contains (y ∷ ys) w) d (has_head y ys)
get_in (y ∷ ys) (suc k) x e = has_tail y ys x (get_in ys k x e)

pub get_within : {X : Type 0} → (xs : List X) (k : ℕ) (x : X) → slice_get xs k ≡ Some x → k < length xs
get_within [] k x e = cc
get_within (y ∷ ys) zero x e = omega arith
get_within (y ∷ ys) (suc k) x e = let l : k < length ys = get_within ys k x e in omega arith

pub place_in : {X : Type 0} → (xs : List X) (x : X) → Contains xs x → (k : ℕ) × (slice_get xs k ≡ Some x)
place_in xs x c = (c.0, get_read xs c.0 x c.1 (sym c.2))

pub get_map : {X Y : Type 0} → (f : X → Y) (xs : List X) (k : ℕ) (y : Y) → slice_get (map f xs) k ≡ Some y → (x : X) × (slice_get xs k ≡ Some x) × (f x ≡ y)
get_map f [] k y e = cc
get_map f (x ∷ xs) zero y e = (x, refl, (let d : f x ≡ y = cc in d))
get_map f (x ∷ xs) (suc k) y e = get_map f xs k y e

pub map_get : {X Y : Type 0} → (f : X → Y) (xs : List X) (k : ℕ) (x : X) → slice_get xs k ≡ Some x → slice_get (map f xs) k ≡ Some (f x)
map_get f [] k x e = cc
map_get f (y ∷ ys) zero x e = let d : y ≡ x = cc in ap (λ w. Some (f w)) d
map_get f (y ∷ ys) (suc k) x e = map_get f ys k x e

first_apart : {X : Type 0} → (R : X → X → Ordering) (total : IsTotalOrder R) (y : X) (ys : List X) (x : X) (k : ℕ) → AllAbove R y ys → Some y ≡ Some x → slice_get ys k ≡ Some x → ⊥
first_apart R total y ys x k above e f =
    let d : y ≡ x = cc in
    let less : R y x ≡ Less = below R y ys x above (get_in ys k x f) in
    let same : R y y ≡ Equal = tied_itself total y in
    let also : R y y ≡ Less = subst (λ w. R y w ≡ Less) (sym d) less in
    cc (same, also)

-- an item of an ascending list has one place
pub one_place : {X : Type 0} → (R : X → X → Ordering) (total : IsTotalOrder R) (xs : List X) (x : X) (j k : ℕ) → IsAscending R xs → slice_get xs j ≡ Some x → slice_get xs k ≡ Some x → j ≡ k
one_place R total [] x j k a e f = cc
one_place R total (y ∷ ys) x zero zero a e f = refl
one_place R total (y ∷ ys) x zero (suc k) a e f = absurd (first_apart R total y ys x k a.0 e f)
one_place R total (y ∷ ys) x (suc j) zero a e f = absurd (first_apart R total y ys x j a.0 f e)
one_place R total (y ∷ ys) x (suc j) (suc k) a e f = ap suc (one_place R total ys x j k a.1 e f)

-- a list with an item more
pub all_push : {X : Type 0} → (P : X → Type 0) (xs : List X) (y : X) → ((x : X) → Contains xs x → P x) → P y → (x : X) → Contains (xs ++ y ∷ []) x → P x
all_push P xs y all h x c = elim (Contains-push_cases xs y x c) [ inl d ↦ all x d | inr e ↦ subst P e h ]

pub map_push : {X Y : Type 0} → (f : X → Y) (xs : List X) (y : X) (zs : List Y) (i : ℕ) (z : Y) → i < length zs → z ≡ get_or zs i z → map f xs ≡ take i zs → f y ≡ z → map f (xs ++ y ∷ []) ≡ take (i + 1) zs
map_push f xs y zs i z l e before h =
    map-append f xs (y ∷ []) ∙ ap (λ ws. ws ++ f y ∷ []) before ∙ ap (λ w. take i zs ++ w ∷ []) (h ∙ e) ∙ sym (take_more zs i z l)
