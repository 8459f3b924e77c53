-- Members of sets that are kept as ascending lists.
use Rattle.std.proofs.Common.{◌≡◌, Bool, true, false, not, ◌&&◌, ◌||◌, cond, List, [], ◌∷◌, refl, sym, ap, ◌∙◌}
use Rattle.std.specs.declared.cmp.Ordering.{Ordering}
use Rattle.std.specs.declared.cmp.Ordering.TheVariants.{Less, Equal, Greater}
use Rattle.std.specs.Ordering.{match_ordering, ordering_reverse, eq_by_cmp, is_eq}
use Rattle.std.specs.Cmp.{IsTotalOrder}
use Rattle.std.specs.List.{filter}
use Rattle.collections.specs.Ordered.{AllAbove, IsAscending, with_item, without_item, has_item}

or_false : (a : Bool) → (a || false) ≡ a
or_false true = refl
or_false false = refl

or_again : (a b : Bool) → (a || b) ≡ (a || (a || b))
or_again true b = refl
or_again false b = refl

or_swap : (a b c : Bool) → (a || (b || c)) ≡ (b || (a || c))
or_swap true true c = refl
or_swap true false c = refl
or_swap false b c = refl

and_false : (a : Bool) → false ≡ (a && false)
and_false true = refl
and_false false = refl

module _ {X : Type 0} {R : X → X → Ordering} (o : IsTotalOrder R) where
  -- tied items are members alike
  pub same_test : (u t z : X) → R u t ≡ Equal → eq_by_cmp R z t ≡ eq_by_cmp R z u
  same_test u t z e = ap is_eq (o.antisymm z t ∙ (ap ordering_reverse (sym (o.congr u t z e)) ∙ sym (o.antisymm z u)))

  pub same_member : (u t : X) (xs : List X) → R u t ≡ Equal → has_item R t xs ≡ has_item R u xs
  same_member u t [] e = refl
  same_member u t (z ∷ zs) e = ap (λ b. b || has_item R t zs) (same_test u t z e) ∙ ap (λ b. eq_by_cmp R z u || b) (same_member u t zs e)

  -- an item below all of a list isn't in it
  pub absent : (t : X) (xs : List X) → AllAbove R t xs → has_item R t xs ≡ false
  absent t [] a = refl
  absent t (z ∷ zs) a =
      let above : eq_by_cmp R z t ≡ false = ap is_eq (o.antisymm z t ∙ ap ordering_reverse a.0) in
      ap (λ b. b || has_item R t zs) above ∙ absent t zs a.1

  above_all : (x y : X) (zs : List X) → R x y ≡ Less → AllAbove R y zs → AllAbove R x zs
  above_all x y [] h a = tt
  above_all x y (z ∷ zs) h a = (o.trans x y z h a.0, above_all x y zs h a.1)

  pub member-with_item : (u t : X) (xs : List X) → has_item R t (with_item R u xs) ≡ (eq_by_cmp R u t || has_item R t xs)
  member-with_item u t [] = refl
  member-with_item u t (y ∷ ys) = elim (R u y) as (λ c. R u y ≡ c → has_item R t (match_ordering c (u ∷ y ∷ ys) (y ∷ ys) (y ∷ with_item R u ys)) ≡ (eq_by_cmp R u t || has_item R t (y ∷ ys))) [
    | Less ↦ λ h. refl
    | Equal ↦ λ h. or_again (eq_by_cmp R y t) (has_item R t ys) ∙ ap (λ b. b || has_item R t (y ∷ ys)) (sym (ap is_eq (o.congr u y t h)))
    | Greater ↦ λ h. ap (λ b. eq_by_cmp R y t || b) (member-with_item u t ys) ∙ or_swap (eq_by_cmp R y t) (eq_by_cmp R u t) (has_item R t ys)
  ] refl

  -- where u is tied to t, or not
  by_tie : (u t : X) (P : Bool → Type 0) → (R u t ≡ Equal → P true) → P false → P (eq_by_cmp R u t)
  by_tie u t P yes_tied untied = elim (R u t) as (λ c. R u t ≡ c → P (is_eq c)) [
    | Less ↦ λ h. untied
    | Equal ↦ λ h. yes_tied h
    | Greater ↦ λ h. untied
  ] refl

  pub member-without_item : (u t : X) (xs : List X) → IsAscending R xs → has_item R t (without_item R u xs) ≡ (not (eq_by_cmp R u t) && has_item R t xs)
  member-without_item u t [] a = and_false (not (eq_by_cmp R u t))
  member-without_item u t (y ∷ ys) a = elim (R u y) as (λ c. R u y ≡ c → has_item R t (match_ordering c (y ∷ ys) ys (y ∷ without_item R u ys)) ≡ (not (eq_by_cmp R u t) && has_item R t (y ∷ ys))) [
    | Less ↦ λ h. by_tie u t (λ b. has_item R t (y ∷ ys) ≡ (not b && has_item R t (y ∷ ys)))
        (λ e. same_member u t (y ∷ ys) e ∙ absent u (y ∷ ys) (h, above_all u y ys h a.0)) refl
    | Equal ↦ λ h. by_tie y t (λ b. has_item R t ys ≡ (not b && (b || has_item R t ys))) (λ e. same_member y t ys e ∙ absent y ys a.0) refl
        ∙ ap (λ b. not b && has_item R t (y ∷ ys)) (sym (ap is_eq (o.congr u y t h)))
    | Greater ↦ λ h. ap (λ b. eq_by_cmp R y t || b) (member-without_item u t ys a.1) ∙ by_tie u t (λ b. (eq_by_cmp R y t || (not b && has_item R t ys)) ≡ (not b && (eq_by_cmp R y t || has_item R t ys)))
        (λ e. or_false (eq_by_cmp R y t) ∙ ap is_eq (o.antisymm y t ∙ ap ordering_reverse (sym (o.congr u t y e) ∙ h))) refl
  ] refl

  -- a test that tied items pass alike
  pub member-filter : (p : X → Bool) (t : X) (xs : List X) → ((u : X) → R u t ≡ Equal → p u ≡ p t) → has_item R t (filter p xs) ≡ (has_item R t xs && p t)
  member-filter p t [] same = refl
  member-filter p t (y ∷ ys) same = elim (p y) as (λ b. p y ≡ b → has_item R t (cond b (y ∷ filter p ys) (filter p ys)) ≡ ((eq_by_cmp R y t || has_item R t ys) && p t)) [
    | true ↦ λ h. ap (λ b. eq_by_cmp R y t || b) (member-filter p t ys same) ∙ by_tie y t (λ b. (b || (has_item R t ys && p t)) ≡ ((b || has_item R t ys) && p t)) (λ e. sym h ∙ same y e) refl
    | false ↦ λ h. member-filter p t ys same ∙ by_tie y t (λ b. (has_item R t ys && p t) ≡ ((b || has_item R t ys) && p t))
        (λ e. let none : p t ≡ false = sym (same y e) ∙ h in ap (λ b. has_item R t ys && b) none ∙ (sym (and_false (has_item R t ys)) ∙ sym none)) refl
  ] refl

  above-filter : (p : X → Bool) (x : X) (xs : List X) → AllAbove R x xs → AllAbove R x (filter p xs)
  above-filter p x [] a = tt
  above-filter p x (y ∷ ys) a = elim (p y) as (λ b. AllAbove R x (cond b (y ∷ filter p ys) (filter p ys))) [
    | true ↦ (a.0, above-filter p x ys a.1)
    | false ↦ above-filter p x ys a.1
  ]

  pub ascending-filter : (p : X → Bool) (xs : List X) → IsAscending R xs → IsAscending R (filter p xs)
  ascending-filter p [] a = tt
  ascending-filter p (y ∷ ys) a = elim (p y) as (λ b. IsAscending R (cond b (y ∷ filter p ys) (filter p ys))) [
    | true ↦ (above-filter p y ys a.0, ascending-filter p ys a.1)
    | false ↦ ascending-filter p ys a.1
  ]
