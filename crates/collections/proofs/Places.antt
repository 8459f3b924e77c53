-- An item that was found.
use Rattle.std.proofs.Common.{◌≡◌, ℕ, suc, ◌<◌, List, ◌∷◌, length, get_or, drop, ◌∙◌, sym, ap, drop-cons}
use Rattle.std.specs.declared.cmp.Ordering.{Ordering}
use Rattle.std.specs.declared.cmp.Ordering.TheVariants.{Equal}
use Rattle.std.specs.Ordering.{match_ordering}
use Rattle.collections.specs.Ordered.{without_item}

pub without-same : {X : Type 0} (R : X → X → Ordering) (x y : X) (zs ys : List X) → zs ≡ y ∷ ys → R x y ≡ Equal → without_item R x zs ≡ ys
without-same R x y zs ys e h = ap (without_item R x) e ∙ ap (λ o. match_ordering o (y ∷ ys) ys (y ∷ without_item R x ys)) h

pub without-at : {X : Type 0} (R : X → X → Ordering) (x : X) (xs : List X) (i : ℕ) (y : X) → i < length xs → y ≡ get_or xs i y → R x y ≡ Equal → without_item R x (drop i xs) ≡ drop (suc i) xs
without-at R x xs i y lt is h = without-same R x y (drop i xs) (drop (suc i) xs) (drop-cons xs i y lt ∙ ap (λ z. z ∷ drop (suc i) xs) (sym is)) h
