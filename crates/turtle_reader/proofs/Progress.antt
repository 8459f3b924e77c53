-- Parsers take tokens, so a repetition goes on as often as it may.
use Rattle.std.proofs.Common.{◌≡◌, ℕ, zero, suc, ◌<◌, ◌≤◌, Bool, true, false, cond, List, Ok, Err, refl, ap, arith}
use Rattle.std.specs.Prelude.{IfOk}
use Rattle.turtle_reader.specs.declared.state.State.{State}
use Rattle.turtle_reader.specs.Parsers.{Outcome, Parser, and_then, ◌>>=◌, left, repeated, many}

-- what is left after a reading is less than so much, and the next number is no lower
abbrev pub Below : {A : Type 0} → List ℕ → ℕ → ℕ → Outcome A → Type 0
Below text n low o = IfOk o (λ r. (left text r.1 < n) × (low ≤ r.1.next))

-- a reading takes a token or more, or none or more
abbrev pub Takes : {A : Type 0} → List ℕ → Parser A → Type 0
Takes text f = (s : State) → Below text (left text s) s.next (f s)

abbrev pub Keeps : {A : Type 0} → List ℕ → Parser A → Type 0
Keeps text f = (s : State) → Below text (suc (left text s)) s.next (f s)

below_more : {A : Type 0} (text : List ℕ) (n m low high : ℕ) (o : Outcome A) → n ≤ m → low ≤ high → Below text n high o → Below text m low o
below_more text n m low high (Ok r) le up h = (omega (arith, le, h.0), omega (arith, up, h.1))
below_more text n m low high (Err e) le up h = tt

pub takes_keeps : {A : Type 0} (text : List ℕ) (f : Parser A) → Takes text f → Keeps text f
takes_keeps text f h s = below_more text (left text s) (suc (left text s)) s.next s.next (f s) (omega arith) (omega arith) (h s)

below_then : {A B : Type 0} (text : List ℕ) (n m low : ℕ) (o : Outcome A) (g : A → Parser B) → Below text n low o → ((x : A) (s : State) → left text s < n → low ≤ s.next → Below text m low (g x s)) → Below text m low (and_then o g)
below_then text n m low (Ok r) g h k = k r.0 r.1 h.0 h.1
below_then text n m low (Err e) g h k = tt

pub takes_then : {A B : Type 0} (text : List ℕ) (f : Parser A) (g : A → Parser B) → Takes text f → ((x : A) → Keeps text (g x)) → Takes text (f >>= g)
takes_then text f g hf hg s = below_then text (left text s) (left text s) s.next (f s) g (hf s) (λ x t lt up. below_more text (suc (left text t)) (left text s) s.next t.next (g x t) (omega (arith, lt)) up (hg x t))

pub then_takes : {A B : Type 0} (text : List ℕ) (f : Parser A) (g : A → Parser B) → Keeps text f → ((x : A) → Takes text (g x)) → Takes text (f >>= g)
then_takes text f g hf hg s = below_then text (suc (left text s)) (left text s) s.next (f s) g (hf s) (λ x t lt up. below_more text (left text t) (left text s) s.next t.next (g x t) (omega (arith, lt)) up (hg x t))

pub keeps_then : {A B : Type 0} (text : List ℕ) (f : Parser A) (g : A → Parser B) → Keeps text f → ((x : A) → Keeps text (g x)) → Keeps text (f >>= g)
keeps_then text f g hf hg s = below_then text (suc (left text s)) (suc (left text s)) s.next (f s) g (hf s) (λ x t lt up. below_more text (suc (left text t)) (suc (left text s)) s.next t.next (g x t) (omega (arith, lt)) up (hg x t))

-- a repetition with enough turns
same_then : {A B : Type 0} (text : List ℕ) (n low : ℕ) (o : Outcome A) (f g : A → Parser B) → Below text n low o → ((x : A) (s : State) → left text s < n → f x s ≡ g x s) → and_then o f ≡ and_then o g
same_then text n low (Ok r) f g h k = k r.0 r.1 h.0
same_then text n low (Err e) f g h k = refl

repeated_same : {X : Type 0} (text : List ℕ) (test : State → Bool) (body : X → Parser X) → ((x : X) → Takes text (body x)) → (n m : ℕ) (x : X) (s : State) → left text s < n → left text s < m → repeated n test body x s ≡ repeated m test body x s
repeated_same text test body takes zero m x s a b = absurd (omega arith)
repeated_same text test body takes (suc n) zero x s a b = absurd (omega arith)
repeated_same text test body takes (suc n) (suc m) x s a b =
    ap (λ o. cond (test s) o (Ok (x, s)))
    (same_then text (left text s) s.next (body x s) (repeated n test body) (repeated m test body) (takes x s)
    (λ y t lt. repeated_same text test body takes n m y t (omega (arith, lt, a)) (omega (arith, lt, b))))

pub many_more : {X : Type 0} (text : List ℕ) (test : State → Bool) (body : X → Parser X) → ((x : X) → Takes text (body x)) → (x : X) (s : State)
    → many text test body x s ≡ cond (test s) (and_then (body x s) (many text test body)) (Ok (x, s))
unfolding many
many_more text test body takes x s =
    ap (λ o. cond (test s) o (Ok (x, s)))
    (same_then text (left text s) s.next (body x s) (repeated (left text s) test body) (many text test body) (takes x s)
    (λ y t lt. repeated_same text test body takes (left text s) (suc (left text t)) y t lt (omega arith)))

below_repeated : {X : Type 0} (text : List ℕ) (test : State → Bool) (body : X → Parser X) → ((x : X) → Keeps text (body x)) → (n : ℕ) (x : X) → Keeps text (repeated n test body x)
below_repeated text test body keeps zero x s = (omega arith, omega arith)
below_repeated text test body keeps (suc n) x s = elim (test s) as (λ b. Below text (suc (left text s)) s.next (cond b (and_then (body x s) (repeated n test body)) (Ok (x, s)))) [
  | true ↦ keeps_then text (body x) (repeated n test body) (keeps x) (below_repeated text test body keeps n) s
  | false ↦ (omega arith, omega arith)
]

pub keeps_many : {X : Type 0} (text : List ℕ) (test : State → Bool) (body : X → Parser X) → ((x : X) → Keeps text (body x)) → (x : X) → Keeps text (many text test body x)
unfolding many
keeps_many text test body keeps x s = below_repeated text test body keeps (suc (left text s)) x s
