-- What a loop knows of the items that it has passed.
use Rattle.std.proofs.Common.{◌≡◌, ◌∙◌, ℕ, ◌+◌, ◌<◌, ◌≤◌, List, [], ◌∷◌, ◌++◌, length, take, get_or, refl, sym, subst, arith, inl, inr, Bool, true, false, not, IsTrue}
use borrow.Author.Tests.{eqb-true}
use Rattle.std.specs.Prelude.{◌↔◌, ◌⊎◌, ◌==◌, slice_get, None}
use Rattle.std.specs.List.{Contains}
use Rattle.shape_syntax.specs.Gathering.{Gives, HasGathered}
use Rattle.std.proofs.lemmas.List.{take_all, take_more}
use Rattle.std.proofs.lemmas.List.Elements.{Contains-append_left, Contains-push, Contains-push_cases}

-- none so far, and none at the next place
pub none_next : {X : Type 0} → (P : X → Type 0) (xs : List X) (i : ℕ) (d : X) → i < length xs → ((x : X) → Contains (take i xs) x → P x → ⊥) → (P (get_or xs i d) → ⊥) → (x : X) → Contains (take (i + 1) xs) x → P x → ⊥
none_next P xs i d l before here x c p = elim (Contains-push_cases (take i xs) (get_or xs i d) x (subst (λ ys. Contains ys x) (take_more xs i d l) c)) [ inl k ↦ before x k p | inr f ↦ here (subst P (sym f) p) ]

pub gathered_none : {X Y : Type 0} → (At : X → Y → Type 0) (xs : List X) (now : List Y) → HasGathered At (take 0 xs) now now
gathered_none At xs now y = (λ c. inl c, λ h. elim h [ inl c ↦ c | inr g ↦ absurd (let k = g.1.1 in omega arith) ])

pub gathered_more : {X Y : Type 0} → (At : X → Y → Type 0) (xs : List X) (i : ℕ) (d : X) (old now next : List Y) → i < length xs
    → HasGathered At (take i xs) old now
    → ((y : Y) → Contains next y ↔ (Contains now y ⊎ At (get_or xs i d) y))
    → HasGathered At (take (i + 1) xs) old next
gathered_more At xs i d old now next l before step y =
    let whole : take (i + 1) xs ≡ take i xs ++ get_or xs i d ∷ [] = take_more xs i d l in (
      λ c. elim ((step y).0 c) [
        | inl n ↦ elim ((before y).0 n) [ inl o ↦ inl o | inr k ↦ inr (k.0, subst (λ zs. Contains zs k.0) (sym whole) (Contains-append_left (take i xs) (get_or xs i d ∷ []) k.0 k.1), k.2) ]
        | inr a ↦ inr (get_or xs i d, subst (λ zs. Contains zs (get_or xs i d)) (sym whole) (Contains-push (take i xs) (get_or xs i d)), a)
      ],
      λ h. elim h [
        | inl o ↦ (step y).1 (inl ((before y).1 (inl o)))
        | inr g ↦ elim (Contains-push_cases (take i xs) (get_or xs i d) g.0 (subst (λ zs. Contains zs g.0) whole g.1)) [
          | inl c ↦ (step y).1 (inl ((before y).1 (inr (g.0, c, g.2))))
          | inr f ↦ (step y).1 (inr (subst (λ z. At z y) (sym f) g.2))
        ]
      ],
    )

-- the same where the item has a name
pub gathered_next : {X Y : Type 0} → (At : X → Y → Type 0) (xs : List X) (i : ℕ) (x : X) (old now next : List Y) → i < length xs → x ≡ get_or xs i x
    → HasGathered At (take i xs) old now
    → ((y : Y) → Contains next y ↔ (Contains now y ⊎ At x y))
    → HasGathered At (take (i + 1) xs) old next
gathered_next {X} {Y} At xs i x old now next l e before step = gathered_more At xs i x old now next l before (subst (λ (z : X). (y : Y) → Contains next y ↔ (Contains now y ⊎ At z y)) e step)

pub gathered_all : {X Y : Type 0} → (At : X → Y → Type 0) (xs : List X) (i : ℕ) (old now : List Y) → length xs ≤ i → HasGathered At (take i xs) old now → HasGathered At xs old now
gathered_all {X} {Y} At xs i old now l h = subst (λ (zs : List X). HasGathered At zs old now) (take_all i xs l) h

-- one item more where this holds, and none where it doesn't
pub gave : {Y : Type 0} → (A : Y → Type 0) (old next : List Y) (y : Y) → next ≡ old ++ y ∷ [] → A y → ((x : Y) → A x → x ≡ y) → (x : Y) → Contains next x ↔ (Contains old x ⊎ A x)
gave A old next y e a only x = (
  λ c. elim (Contains-push_cases old y x (subst (λ xs. Contains xs x) e c)) [ inl o ↦ inl o | inr d ↦ inr (subst A d a) ],
  λ h. subst (λ xs. Contains xs x) (sym e) (elim h [ inl o ↦ Contains-append_left old (y ∷ []) x o | inr b ↦ subst (λ w. Contains (old ++ y ∷ []) w) (sym (only x b)) (Contains-push old y) ]),
)

pub gave_none : {Y : Type 0} → (A : Y → Type 0) (old : List Y) → ((x : Y) → A x → ⊥) → (x : Y) → Contains old x ↔ (Contains old x ⊎ A x)
gave_none A old none x = (λ c. inl c, λ h. elim h [ inl o ↦ o | inr a ↦ absurd (none x a) ])

-- one step after another
pub gave_both : {Y : Type 0} → (A B : Y → Type 0) (old now next : List Y) → ((x : Y) → Contains now x ↔ (Contains old x ⊎ A x)) → ((x : Y) → Contains next x ↔ (Contains now x ⊎ B x)) → (x : Y) → Contains next x ↔ (Contains old x ⊎ (A x ⊎ B x))
gave_both A B old now next f g x = (
  λ c. elim ((g x).0 c) [
    | inl n ↦ elim ((f x).0 n) [ inl o ↦ inl o | inr a ↦ inr (inl a) ]
    | inr b ↦ inr (inr b)
  ],
  λ h. elim h [
    | inl o ↦ (g x).1 (inl ((f x).1 (inl o)))
    | inr (inl a) ↦ (g x).1 (inl ((f x).1 (inr a)))
    | inr (inr b) ↦ (g x).1 (inr b)
  ],
)

-- the same under another name
pub gave_as : {Y : Type 0} → (A B : Y → Type 0) (old next : List Y) → ((x : Y) → A x ↔ B x) → ((x : Y) → Contains next x ↔ (Contains old x ⊎ A x)) → (x : Y) → Contains next x ↔ (Contains old x ⊎ B x)
gave_as A B old next f g x = (
  λ c. elim ((g x).0 c) [ inl o ↦ inl o | inr a ↦ inr ((f x).0 a) ],
  λ h. elim h [ inl o ↦ (g x).1 (inl o) | inr b ↦ (g x).1 (inr ((f x).1 b)) ],
)

in_list : {X : Type 0} → (xs : List X) → IsTrue (not (length xs == 0)) ↔ ((x : X) × Contains xs x)
in_list [] = (λ h. cc, λ h. absurd (let k = h.1.1 in omega arith))
in_list (x ∷ xs) = (
  λ h. (x, (0, omega arith, refl)),
  λ h. elim (length (x ∷ xs) == 0) as (λ (b : Bool). (length (x ∷ xs) == 0) ≡ b → IsTrue (not b)) [
    | true ↦ λ e. absurd (let k = eqb-true (length (x ∷ xs)) 0 e in omega arith)
    | false ↦ λ e. refl
  ] refl,
)

-- a list that isn't empty
pub some_item : {X : Type 0} → (xs : List X) (b : Bool) → b ≡ (length xs == 0) → IsTrue (not b) ↔ ((x : X) × Contains xs x)
some_item {X} xs b e = subst (λ (a : Bool). IsTrue (not a) ↔ ((x : X) × Contains xs x)) (sym e) (in_list xs)

-- where a test fails
pub denied : (b : Bool) (P Q : Type 0) → IsTrue b ↔ P → (IsTrue (not b) × Q) ↔ ((P → ⊥) × Q)
denied true P Q e = (λ h. absurd (let k = h.0 in cc), λ h. absurd (h.0 (e.0 refl)))
denied false P Q e = (λ h. ((λ p. let k = e.1 p in cc), h.1), λ h. (refl, h.1))

pub pathless : (b : Bool) (P : Type 0) → IsTrue b ↔ P → IsTrue (not b) ↔ (P → ⊥)
pathless true P e = (λ h. cc, λ h. absurd (h (e.0 refl)))
pathless false P e = (λ h p. let k = e.1 p in cc, λ h. refl)

pub from_none : {X Y : Type 0} → (At : X → Y → Type 0) (xs : List X) (now : List Y) → HasGathered At xs [] now → (y : Y) → Contains now y ↔ Gives At xs y
from_none At xs now h y = (λ c. elim ((h y).0 c) [ inl n ↦ absurd (let k = n.1 in omega arith) | inr g ↦ g ], λ g. (h y).1 (inr g))

pub none_first : {X : Type 0} → (xs : List X) → slice_get xs 0 ≡ None → (x : X) → Contains xs x → ⊥
none_first [] e x c = absurd (let k = c.1 in omega arith)
none_first (y ∷ ys) e x c = cc

pub is_none : {X : Type 0} → (xs : List X) (b : Bool) → b ≡ (length xs == 0) → IsTrue b ↔ ((x : X) → Contains xs x → ⊥)
is_none xs b e = (
  λ h x c. let k = eqb-true (length xs) 0 (sym e ∙ h) in let l = c.1 in absurd (omega arith),
  λ h. elim b as (λ (a : Bool). b ≡ a → IsTrue a) [ true ↦ λ f. refl | false ↦ λ f. absurd (let k = (some_item xs b e).0 (rw f refl) in h k.0 k.1) ] refl,
)
