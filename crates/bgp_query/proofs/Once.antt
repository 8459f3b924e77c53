-- Lists without repeats.
use Rattle.std.proofs.Common.{◌≡◌, ◌∙◌, ◌<◌, ◌≤◌, ◌+◌, ◌++◌, ℕ, zero, suc, List, [], ◌∷◌, refl, sym, subst, ap, arith, get_or, inl, inr, length, take}
use Rattle.std.specs.Prelude.{◌⊎◌, ◌↔◌}
use Rattle.std.specs.List.{Contains}
use Rattle.std.specs.declared.cmp.Ordering.{Ordering}
use Rattle.std.specs.Cmp.{IsTotalOrder, tied_itself}
use Rattle.std.proofs.lemmas.List.{take_more}
use Rattle.std.proofs.lemmas.List.Elements.{Contains-append_cases, Contains-append_left, Contains-get_or, Contains-push, Contains-push_cases}
use Rattle.collections.specs.Ordered.{IsAscending}
use Rattle.collections.proofs.Members.{below, has_cases, has_equal, has_head, has_tail}
use Rattle.triple_index.specs.Patterns.{AreApart, ListsOnce}

-- a list without one of its items
taken_out : {X : Type 0} (ys : List X) (x : X) → Contains ys x → (zs : List X) × (length ys ≡ suc (length zs)) × ((w : X) → (w ≡ x → ⊥) → Contains ys w → Contains zs w)
taken_out [] x c = absurd (let l = c.1 in omega arith)
taken_out (y ∷ ys) x c = elim (has_cases y ys x c) [
  | inl e ↦ (ys, refl, λ w apart d. elim (has_cases y ys w d) [ inl k ↦ absurd (apart (sym k ∙ e)) | inr k ↦ k ])
  | inr d ↦ let t = taken_out ys x d in (y ∷ t.0, ap suc t.1, λ w apart k. elim (has_cases y ys w k) [ inl e ↦ has_equal y t.0 w e | inr l ↦ has_tail y t.0 w (t.2 w apart l) ])
]

-- items of another list, each once, are no more than there
pub no_more : {X : Type 0} (xs ys : List X) → AreApart xs → ((x : X) → Contains xs x → Contains ys x) → length xs ≤ length ys
no_more [] ys d all = omega arith
no_more (x ∷ xs) ys d all =
    let t = taken_out ys x (all x (has_head x xs)) in
    let less : length xs ≤ length t.0 = no_more xs t.0 d.1 (λ w c. t.2 w (λ e. d.0 (subst (λ (v : _). Contains xs v) e c)) (all w (has_tail x xs w c))) in
    let e : length ys ≡ suc (length t.0) = t.1 in omega (arith, less, e)

pub apart_ascending : {X : Type 0} (R : X → X → Ordering) → IsTotalOrder R → (xs : List X) → IsAscending R xs → AreApart xs
apart_ascending R total [] a = tt
apart_ascending R total (x ∷ xs) a = (λ c. let l = below R x xs x a.0 c in let e = tied_itself total x in cc (l, e), apart_ascending R total xs a.1)

-- what stands at a place doesn't stand before it
pub apart_before : {X : Type 0} (xs : List X) (i : ℕ) (d : X) → AreApart xs → i < length xs → Contains (take i xs) (get_or xs i d) → ⊥
apart_before [] i d a l c = absurd (omega arith)
apart_before (x ∷ xs) zero d a l c = absurd (omega arith)
apart_before (x ∷ xs) (suc i) d a l c = elim (has_cases x (take i xs) (get_or xs i d) c) [
  | inl e ↦ a.0 (subst (λ (w : _). Contains xs w) (sym e) (Contains-get_or xs i d (omega arith)))
  | inr k ↦ apart_before xs i d a.1 (omega arith) k
]

-- what a list has up to a place, and one more
pub upto_cases : {X : Type 0} (xs : List X) (i : ℕ) (d x : X) → i < length xs → Contains (take (i + 1) xs) x → Contains (take i xs) x ⊎ (get_or xs i d ≡ x)
upto_cases xs i d x l c = Contains-push_cases (take i xs) (get_or xs i d) x (subst (λ (ys : List _). Contains ys x) (take_more xs i d l) c)

pub upto_old : {X : Type 0} (xs : List X) (i : ℕ) (d x : X) → i < length xs → Contains (take i xs) x → Contains (take (i + 1) xs) x
upto_old xs i d x l c = subst (λ (ys : List _). Contains ys x) (sym (take_more xs i d l)) (Contains-append_left (take i xs) (get_or xs i d ∷ []) x c)

pub upto_new : {X : Type 0} (xs : List X) (i : ℕ) (d : X) → i < length xs → Contains (take (i + 1) xs) (get_or xs i d)
upto_new xs i d l = subst (λ (ys : List _). Contains ys (get_or xs i d)) (sym (take_more xs i d l)) (Contains-push (take i xs) (get_or xs i d))

pub apart_append : {X : Type 0} (xs ys : List X) → AreApart xs → AreApart ys → ((x : X) → Contains xs x → Contains ys x → ⊥) → AreApart (xs ++ ys)
apart_append [] ys a b n = b
apart_append (x ∷ xs) ys a b n = (
  λ c. elim (Contains-append_cases xs ys x c) [ inl d ↦ a.0 d | inr d ↦ n x (has_head x xs) d ],
  apart_append xs ys a.1 b (λ y c d. n y (has_tail x xs y c) d),
)

pub once_as : {X : Type 0} (P Q : X → Type 0) (xs : List X) → ((x : X) → P x ↔ Q x) → ListsOnce P xs → ListsOnce Q xs
once_as P Q xs e l = record { apart = l.apart; members = λ x. (λ c. (e x).0 ((l.members x).0 c), λ q. (l.members x).1 ((e x).1 q)) }
