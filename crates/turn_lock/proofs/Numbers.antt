-- Numbers in a list.
use Rattle.std.proofs.Common.{◌≡◌, ◌≢◌, ◌⊎◌, ℕ, eqb, Bool, true, false, List, [], ◌∷◌, ◌++◌, refl, ap, sym, ◌∙◌, inl, inr, ⊎_elim, cond, eq-eqb, ne_eqb}
use mathlib.Core.Logic.{dite}
use native.Mathlib.Decide.{ℕ_discrete}
use Rattle.turn_lock.specs.History.{has_number, without_number, number_among}

pub yes_no : (b : Bool) → b ≡ true → b ≡ false → ⊥
yes_no b p q = let z : true ≡ false = sym p ∙ q in cc

-- the seat of each number or ticket, once k went to the seat id
abbrev pub put : (ℕ → ℕ) → ℕ → ℕ → ℕ → ℕ
put f k id n = cond (eqb n k) id (f n)

pub put_here : (f : ℕ → ℕ) (k id : ℕ) → put f k id k ≡ id
put_here f k id = ap (λ b. cond b id (f k)) (eq-eqb k k refl)

pub put_else : (f : ℕ → ℕ) (k id n : ℕ) → n ≢ k → put f k id n ≡ f n
put_else f k id n ne = ap (λ b. cond b id (f n)) (ne_eqb n k ne)

pub has_more : (ks : List ℕ) (k n : ℕ) → has_number (k ∷ ks) n ≡ true → (k ≡ n) ⊎ (has_number ks n ≡ true)
has_more ks k n h = dite (ℕ_discrete k n) (λ e. inl e) (λ ne. inr (sym (ap (λ b. cond b true (has_number ks n)) (ne_eqb k n ne)) ∙ h))

pub has_here : (ks : List ℕ) (n : ℕ) → has_number (n ∷ ks) n ≡ true
has_here ks n = ap (λ b. cond b true (has_number ks n)) (eq-eqb n n refl)

pub has_later : (ks : List ℕ) (k n : ℕ) → has_number ks n ≡ true → has_number (k ∷ ks) n ≡ true
has_later ks k n h = dite (ℕ_discrete k n) (λ e. ap (λ b. cond b true (has_number ks n)) (eq-eqb k n e)) (λ ne. ap (λ b. cond b true (has_number ks n)) (ne_eqb k n ne) ∙ h)

pub has_append : (ks ls : List ℕ) (n : ℕ) → has_number (ks ++ ls) n ≡ true → (has_number ks n ≡ true) ⊎ (has_number ls n ≡ true)
has_append [] ls n h = inr h
has_append (k ∷ ks) ls n h = ⊎_elim (λ (z : k ≡ n). inl (ap (λ y. has_number (y ∷ ks) n) z ∙ has_here ks n))
    (λ (z : has_number (ks ++ ls) n ≡ true). ⊎_elim (λ (t : has_number ks n ≡ true). inl (has_later ks k n t)) (λ (t : has_number ls n ≡ true). inr t) (has_append ks ls n z)) (has_more (ks ++ ls) k n h)

pub has_left : (ks ls : List ℕ) (n : ℕ) → has_number ks n ≡ true → has_number (ks ++ ls) n ≡ true
has_left [] ls n h = absurd (let z : false ≡ true = h in cc)
has_left (k ∷ ks) ls n h = ⊎_elim (λ (z : k ≡ n). ap (λ y. has_number (y ∷ (ks ++ ls)) n) z ∙ has_here (ks ++ ls) n)
    (λ (z : has_number ks n ≡ true). has_later (ks ++ ls) k n (has_left ks ls n z)) (has_more ks k n h)

pub has_right : (ks ls : List ℕ) (n : ℕ) → has_number ls n ≡ true → has_number (ks ++ ls) n ≡ true
has_right [] ls n h = h
has_right (k ∷ ks) ls n h = has_later (ks ++ ls) k n (has_right ks ls n h)

pub without_has : (n k : ℕ) (ks : List ℕ) → has_number (without_number n ks) k ≡ true → (has_number ks k ≡ true) × (k ≢ n)
without_has n k [] h = absurd (let z : false ≡ true = h in cc)
without_has n k (x ∷ xs) h = dite (ℕ_discrete x n)
    (λ e. let h' : has_number (without_number n xs) k ≡ true = ap (λ b. has_number (cond b (without_number n xs) (x ∷ without_number n xs)) k) (sym (eq-eqb x n e)) ∙ h in
    let q = without_has n k xs h' in (has_later xs x k q.0, q.1))
    (λ ne. let h' : has_number (x ∷ without_number n xs) k ≡ true = ap (λ b. has_number (cond b (without_number n xs) (x ∷ without_number n xs)) k) (sym (ne_eqb x n ne)) ∙ h in
    ⊎_elim (λ (z : x ≡ k). (ap (λ y. has_number (y ∷ xs) k) z ∙ has_here xs k, λ e. ne (z ∙ e)))
    (λ (z : has_number (without_number n xs) k ≡ true). let q = without_has n k xs z in (has_later xs x k q.0, q.1)) (has_more (without_number n xs) x k h'))

pub has_without : (n k : ℕ) (ks : List ℕ) → k ≢ n → has_number ks k ≡ true → has_number (without_number n ks) k ≡ true
has_without n k [] ne h = h
has_without n k (x ∷ xs) ne h = dite (ℕ_discrete x n)
    (λ e. ap (λ b. has_number (cond b (without_number n xs) (x ∷ without_number n xs)) k) (eq-eqb x n e)
    ∙ has_without n k xs ne (⊎_elim (λ (z : x ≡ k). absurd (ne (sym z ∙ e))) (λ (z : has_number xs k ≡ true). z) (has_more xs x k h)))
    (λ other. ap (λ b. has_number (cond b (without_number n xs) (x ∷ without_number n xs)) k) (ne_eqb x n other)
    ∙ ⊎_elim (λ (z : x ≡ k). ap (λ y. has_number (y ∷ without_number n xs) k) z ∙ has_here (without_number n xs) k)
    (λ (z : has_number xs k ≡ true). has_later (without_number n xs) x k (has_without n k xs ne z)) (has_more xs x k h))

among_has_at : (n k : ℕ) (ks : List ℕ) (b : Bool) → has_number ks n ≡ b → has_number (cond b (n ∷ []) []) k ≡ true → (k ≡ n) × (has_number ks n ≡ true)
among_has_at n k ks true is h = (⊎_elim (λ (z : n ≡ k). sym z) (λ (z : false ≡ true). absurd cc) (has_more [] n k h), is)
among_has_at n k ks false is h = absurd (let z : false ≡ true = h in cc)

pub among_has : (n k : ℕ) (ks : List ℕ) → has_number (number_among n ks) k ≡ true → (k ≡ n) × (has_number ks n ≡ true)
among_has n k ks h = among_has_at n k ks (has_number ks n) refl h

pub has_among : (n : ℕ) (ks : List ℕ) → has_number ks n ≡ true → has_number (number_among n ks) n ≡ true
has_among n ks h = ap (λ b. has_number (cond b (n ∷ []) []) n) h ∙ has_here [] n

-- the seat of each number, once these went to the seat id
abbrev pub merged : (ℕ → ℕ) → List ℕ → ℕ → ℕ → ℕ
merged f ks id n = cond (has_number ks n) id (f n)

merged_same_at : (f : ℕ → ℕ) (id n : ℕ) → f n ≡ id → (b : Bool) → cond b id (f n) ≡ id
merged_same_at f id n e true = refl
merged_same_at f id n e false = e

pub merged_same : (f : ℕ → ℕ) (ks : List ℕ) (id n : ℕ) → f n ≡ id → merged f ks id n ≡ id
merged_same f ks id n e = merged_same_at f id n e (has_number ks n)

pub merged_here : (f : ℕ → ℕ) (ks : List ℕ) (id n : ℕ) → has_number ks n ≡ true → merged f ks id n ≡ id
merged_here f ks id n h = ap (λ b. cond b id (f n)) h

merged_else_at : (f : ℕ → ℕ) (id n : ℕ) (b : Bool) → (b ≡ true → ⊥) → cond b id (f n) ≡ f n
merged_else_at f id n true not = absurd (not refl)
merged_else_at f id n false not = refl

pub merged_else : (f : ℕ → ℕ) (ks : List ℕ) (id n : ℕ) → (has_number ks n ≡ true → ⊥) → merged f ks id n ≡ f n
merged_else f ks id n not = merged_else_at f id n (has_number ks n) not
