-- What the first caller has once it has met a worker.
use Rattle.std.proofs.Common.{◌≡◌, ℕ, zero, suc, ◌<◌, true, false, List, [], ◌∷◌, ◌++◌, length, length-append, get_or, refl, ap, sym, subst, ◌∙◌, arith}
use Rattle.atomic_table.specs.Seated.{TableId}
use Rattle.turn_lock.specs.History.{has_number, OthersAdded}
use Rattle.turn_lock.specs.Callers.{Caller, met_caller}
use Rattle.turn_lock.proofs.Numbers.{has_left, has_right}
use Rattle.turn_counter.specs.declared.entry.Entry.{Entry}
use Rattle.turn_counter.specs.Sums.{number_of}
use Rattle.turn_counter.specs.Workers.{HasAdded}

-- what it had from others that it met
pub still_has : {D : Type 0} (lock : TableId) (n times : ℕ) (first other after : Caller Entry D) → after ≡ met_caller first other → OthersAdded number_of false first.known after.known.front
    → HasAdded lock n times first → HasAdded lock n times after
still_has lock n times first other after is added q = record {
  of = ap (λ c. c.lock) is ∙ q.of;
  own = subst (λ k. has_number k.numbers n ≡ true) (sym (ap (λ c. c.known) is)) (has_left first.known.numbers other.known.numbers n q.own);
  additions_are = added.own n q.own ∙ q.additions_are;
}

-- what the worker added
pub now_has : {D : Type 0} (lock : TableId) (n times : ℕ) (first other after : Caller Entry D) → first.lock ≡ lock → after ≡ met_caller first other → OthersAdded number_of false other.known after.known.front
    → HasAdded lock n times other → HasAdded lock n times after
now_has lock n times first other after of is added q = record {
  of = ap (λ c. c.lock) is ∙ of;
  own = subst (λ k. has_number k.numbers n ≡ true) (sym (ap (λ c. c.known) is)) (has_right first.known.numbers other.known.numbers n q.own);
  additions_are = added.own n q.own ∙ q.additions_are;
}

-- of a list that lost its last item
pub get_or_left : {A : Type 0} (xs ys : List A) (k : ℕ) (d : A) → k < length xs → get_or (xs ++ ys) k d ≡ get_or xs k d
get_or_left [] ys k d lt = absurd (omega (arith, lt))
get_or_left (x ∷ xs) ys zero d lt = refl
get_or_left (x ∷ xs) ys (suc k) d lt = get_or_left xs ys k d (omega (arith, lt))

pub get_or_last : {A : Type 0} (xs : List A) (y d : A) → get_or (xs ++ y ∷ []) (length xs) d ≡ y
get_or_last [] y d = refl
get_or_last (x ∷ xs) y d = get_or_last xs y d

pub all_left : {A : Type 0} (Q : ℕ → A → Type 0) (all xs : List A) (y : A) → all ≡ xs ++ y ∷ [] → ((k : ℕ) (d : A) → k < length all → Q k (get_or all k d))
    → (k : ℕ) (d : A) → k < length xs → Q k (get_or xs k d)
all_left {A} Q all xs y is q k d lt =
    let in_all : k < length all = omega (arith, lt, ap length is, length-append xs (y ∷ [])) in
    subst (Q k) (ap (λ (zs : List A). get_or zs k d) is ∙ get_or_left xs (y ∷ []) k d lt) (q k d in_all)

pub of_last : {A : Type 0} (Q : ℕ → A → Type 0) (all xs : List A) (y : A) → all ≡ xs ++ y ∷ [] → ((k : ℕ) (d : A) → k < length all → Q k (get_or all k d)) → Q (length xs) y
of_last {A} Q all xs y is q =
    let in_all : length xs < length all = omega (arith, ap length is, length-append xs (y ∷ [])) in
    subst (Q (length xs)) (ap (λ (zs : List A). get_or zs (length xs) y) is ∙ get_or_last xs y y) (q (length xs) y in_all)
