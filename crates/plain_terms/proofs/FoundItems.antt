-- Lists that have just the items of which something holds, and loops that gather them.
use Rattle.std.proofs.Common.{◌≡◌, ◌∙◌, ℕ, ◌+◌, ◌<◌, ◌≤◌, List, [], ◌∷◌, ◌++◌, length, take, get_or, sym, subst, ap, arith, inl, inr}
use Rattle.std.specs.Prelude.{◌↔◌, ◌⊎◌}
use Rattle.std.specs.List.{Contains}
use Rattle.std.proofs.lemmas.List.{append-nil, take_all, take_more}
use Rattle.std.proofs.lemmas.List.Elements.{Contains-append_cases, Contains-append_left, Contains-append_right, Contains-push, Contains-push_cases}
use Rattle.plain_terms.specs.Finds.{Finds, WithSome}

pub finds_same : {X : Type 0} → (P Q : X → Type 0) (xs : List X) → ((x : X) → P x ↔ Q x) → Finds P xs → Finds Q xs
finds_same P Q xs e h = record { members = λ x. (λ c. (e x).0 ((h.members x).0 c), λ q. (h.members x).1 ((e x).1 q)) }

pub finds_at : {X : Type 0} → (P : X → Type 0) (xs ys : List X) → ys ≡ xs → Finds P xs → Finds P ys
finds_at {X = X} P xs ys e h = subst (λ (zs : List X). Finds P zs) (sym e) h

pub finds_both : {X : Type 0} → (P Q : X → Type 0) (xs ys : List X) → Finds P xs → Finds Q ys → Finds (λ x. P x ⊎ Q x) (xs ++ ys)
finds_both P Q xs ys h k = record {
  members = λ x. (
    λ c. elim (Contains-append_cases xs ys x c) [ inl d ↦ inl ((h.members x).0 d) | inr d ↦ inr ((k.members x).0 d) ],
    elim [ inl p ↦ Contains-append_left xs ys x ((h.members x).1 p) | inr q ↦ Contains-append_right xs ys x ((k.members x).1 q) ],
  );
}

pub finds_one : {X : Type 0} → (P : X → Type 0) (x : X) → ((y : X) → P y ↔ (x ≡ y)) → Finds P (x ∷ [])
finds_one P x e = record {
  members = λ y. (
    λ c. elim (Contains-push_cases [] x y c) [ inl d ↦ absurd (omega arith) | inr d ↦ (e y).1 d ],
    λ p. (0, omega arith, (e y).0 p),
  );
}

pub finds_none : {X : Type 0} → (P : X → Type 0) → ((y : X) → P y → ⊥) → Finds P []
finds_none P none = record { members = λ y. (λ c. absurd (omega arith), λ p. absurd (none y p)) }

-- where a list has just the items of which Q holds, it holds with some item of the list where it holds with some such item
pub some_same : {X Y : Type 0} → (Q : X → Type 0) (xs : List X) (P : X → Y → Type 0) → Finds Q xs → (y : Y) → WithSome xs P y ↔ ((x : X) × Q x × P x y)
some_same Q xs P h y = (λ w. (w.0, (h.members w.0).0 w.1, w.2), λ w. (w.0, (h.members w.0).1 w.1, w.2))

pub some_each : {X Y : Type 0} → (xs : List X) (P Q : X → Y → Type 0) → ((x : X) (y : Y) → P x y ↔ Q x y) → (y : Y) → WithSome xs P y ↔ WithSome xs Q y
some_each xs P Q e y = (λ w. (w.0, w.1, (e w.0 y).0 w.2), λ w. (w.0, w.1, (e w.0 y).1 w.2))

-- a list of the one result that there is where A holds, and of none where it does not
pub one_result : {Y : Type 0} → (A : Type 0) (row r : Y) → A → row ≡ r → Finds (λ y. A × (y ≡ r)) (row ∷ [])
one_result A row r a e = finds_one (λ y. A × (y ≡ r)) row (λ y. (λ k. e ∙ sym k.1, λ k. (a, sym k ∙ e)))

pub no_result : {Y : Type 0} → (A : Type 0) (r : Y) → (A → ⊥) → (y : Y) → A × (y ≡ r) → ⊥
no_result A r never y k = never k.0

-- two lists at once
pub some_two : {X Y Z : Type 0} → (Q : X → Type 0) (xs : List X) (R : Z → Type 0) (zs : List Z) (P : X → Z → Y → Type 0) → Finds Q xs → ((z : Z) → Contains zs z ↔ R z)
    → (y : Y) → WithSome xs (λ x. WithSome zs (P x)) y ↔ ((x : X) × Q x × ((z : Z) × R z × P x z y))
some_two Q xs R zs P h k y = (
  λ w. (w.0, (h.members w.0).0 w.1, (w.2.0, (k w.2.0).0 w.2.1, w.2.2)),
  λ w. (w.0, (h.members w.0).1 w.1, (w.2.0, (k w.2.0).1 w.2.1, w.2.2)),
)

module _ {X Y : Type 0} (P : X → Y → Type 0) (xs : List X) where
  -- what a loop over the list has gathered: at its start, after an item, and at its end
  pub some_none : Finds (WithSome (take 0 xs) P) []
  some_none = record { members = λ y. (λ c. absurd (omega arith), λ w. absurd (omega (arith, w.1))) }

  pushed : (front : List X) (x : X) (y : Y) → WithSome (front ++ x ∷ []) P y ↔ (WithSome front P y ⊎ P x y)
  pushed front x y = (
    λ w. elim (Contains-push_cases front x w.0 w.1) [ inl c ↦ inl (w.0, c, w.2) | inr e ↦ inr (subst (λ (v : X). P v y) (sym e) w.2) ],
    elim [ inl w ↦ (w.0, Contains-append_left front (x ∷ []) w.0 w.1, w.2) | inr p ↦ (x, Contains-push front x, p) ],
  )

  some_more : (i : ℕ) (x : X) (rows more : List Y) → i < length xs → x ≡ get_or xs i x → Finds (WithSome (take i xs) P) rows → Finds (P x) more → Finds (WithSome (take (i + 1) xs) P) (rows ++ more)
  some_more i x rows more l e h k =
      let t : take (i + 1) xs ≡ take i xs ++ x ∷ [] = take_more xs i x l ∙ ap (λ w. take i xs ++ w ∷ []) (sym e) in
      subst (λ (front : List X). Finds (WithSome front P) (rows ++ more)) (sym t)
      (finds_same (λ y. WithSome (take i xs) P y ⊎ P x y) (WithSome (take i xs ++ x ∷ []) P) (rows ++ more)
      (λ y. let p = pushed (take i xs) x y in (p.1, p.0)) (finds_both (WithSome (take i xs) P) (P x) rows more h k))

  -- the step of a loop that gathers more rows
  pub some_step : (i : ℕ) (x : X) (rows more new : List Y) → i < length xs → x ≡ get_or xs i x → new ≡ rows ++ more → Finds (WithSome (take i xs) P) rows → Finds (P x) more → Finds (WithSome (take (i + 1) xs) P) new
  some_step i x rows more new l e n h k = finds_at (WithSome (take (i + 1) xs) P) (rows ++ more) new n (some_more i x rows more l e h k)

  -- of one that passes over an item
  pub some_skip : (i : ℕ) (x : X) (rows : List Y) → i < length xs → x ≡ get_or xs i x → ((y : Y) → P x y → ⊥) → Finds (WithSome (take i xs) P) rows → Finds (WithSome (take (i + 1) xs) P) rows
  some_skip i x rows l e none h = some_step i x rows [] rows l e (sym (append-nil rows)) h (finds_none (P x) none)

  pub some_all : (i : ℕ) (rows : List Y) → length xs ≤ i → Finds (WithSome (take i xs) P) rows → Finds (WithSome xs P) rows
  some_all i rows l h = subst (λ (front : List X). Finds (WithSome front P) rows) (take_all i xs l) h

-- the items of a list of which A holds, as a loop gathers them
pub chosen_items : {X : Type 0} → (A : X → Type 0) (xs found : List X) → Finds (WithSome xs (λ x y. A x × (y ≡ x))) found → Finds (λ x. Contains xs x × A x) found
chosen_items {X = X} A xs found h = finds_same (WithSome xs (λ x y. A x × (y ≡ x))) (λ x. Contains xs x × A x) found (λ x. (
  λ w. (subst (λ (y : X). Contains xs y) (sym w.2.1) w.1, subst (λ (y : X). A y) (sym w.2.1) w.2.0),
  λ w. (x, w.0, (w.1, λ i. x)),
)) h
