-- A list read item by item.
use Rattle.std.proofs.Common.{◌≡◌, ◌∙◌, ℕ, zero, suc, ◌+◌, ◌<◌, List, [], ◌∷◌, ◌++◌, length, map, take, get_or, ap, sym, subst, arith}
use Rattle.std.specs.List.{All}
use Rattle.std.proofs.lemmas.List.{map-append, take_more}
use Rattle.std.proofs.lemmas.List.Elements.{All-head, All-tail}

pub map_more : {X Y : Type 0} → (f : X → Y) (xs : List X) (ys : List Y) (i : ℕ) (x : X) (y : Y) → map f xs ≡ take i ys → i < length ys → y ≡ get_or ys i y → f x ≡ y → map f (xs ++ x ∷ []) ≡ take (i + 1) ys
map_more f xs ys i x y e l r h =
    map-append f xs (x ∷ []) ∙ ap (λ zs. zs ++ f x ∷ []) e ∙ ap (λ z. take i ys ++ z ∷ []) (h ∙ r) ∙ sym (take_more ys i y l)

-- what holds of each of what is read holds of an item as it is read
pub all_read : {X Y : Type 0} → (P : Y → Type 0) (f : X → Y) (xs : List X) (i : ℕ) (x : X) → All P (map f xs) → i < length xs → x ≡ get_or xs i x → P (f x)
all_read P f [] i x a lt e = absurd (omega (arith, lt))
all_read P f (y ∷ ys) zero x a lt e = subst (λ z. P (f z)) (sym e) (All-head P (f y) (map f ys) a)
all_read P f (y ∷ ys) (suc i) x a lt e = all_read P f ys i x (All-tail P (f y) (map f ys) a) (omega (arith, lt)) e

pub read_at : {X Y : Type 0} → (f : X → Y) (xs : List X) (i : ℕ) (x : X) → i < length xs → x ≡ get_or xs i x → f x ≡ get_or (map f xs) i (f x)
read_at f [] i x lt e = absurd (omega (arith, lt))
read_at f (y ∷ ys) zero x lt e = ap f e
read_at f (y ∷ ys) (suc i) x lt e = read_at f ys i x (omega (arith, lt)) e
