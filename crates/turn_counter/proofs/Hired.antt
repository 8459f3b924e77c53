-- A number that the first caller makes, and gives away.
use Rattle.std.proofs.Common.{◌≡◌, ℕ, ◌+◌, ◌==◌, ◌<◌, Bool, true, false, List, [], ◌∷◌, ◌++◌, refl, ap, sym, subst, ◌∙◌, inl, inr, cond, ne_eqb, arith}
use Rattle.atomic_table.specs.Seated.{TableId}
use Rattle.turn_lock.specs.History.{has_number, is_empty, under, is_reserved, OthersAdded, MayAdd}
use Rattle.turn_lock.specs.Callers.{Caller, new_caller}
use Rattle.turn_lock.proofs.Added.{under_own, under_other, empty_is_none}
use Rattle.turn_lock.proofs.Numbers.{has_here, has_among}
use Rattle.turn_lock.proofs.Reserved.{still_reserved}
use Rattle.turn_counter.specs.declared.entry.Entry.{Entry}
use Rattle.turn_counter.specs.Sums.{number_of, Adds}
use Rattle.turn_counter.specs.Workers.{HasAdded, IsFresh, IsFirst}

abbrev entry_of : ℕ → Entry
entry_of n = record { number = n; amount = 0 }

reserved_is : (f : List Entry) (n : ℕ) → 0 < n → is_reserved number_of false f (entry_of n) ≡ is_empty (under number_of n f)
reserved_is f n some = ap (λ b. cond b true (is_empty (under number_of n f))) (ne_eqb n 0 (λ zero. omega (arith, zero, some)))

-- the first caller may make a number that nobody made
pub may_make : {D : Type 0} (lock : TableId) (first : Caller Entry D) (n : ℕ) → IsFirst lock first → 0 < n → IsFresh first.known.front n → MayAdd number_of false first.known (entry_of n)
may_make lock first n is some fresh = inr (inl (is.1, reserved_is first.known.front n some ∙ ap is_empty (fresh n (omega arith))))

-- others make no number
pub still_fresh : {D : Type 0} (lock : TableId) (first : Caller Entry D) (seen : List Entry) (n : ℕ) → IsFirst lock first → 0 < n → IsFresh first.known.front n
    → OthersAdded number_of false first.known seen → IsFresh seen n
still_fresh lock first seen n is some fresh others k le =
    let some_k : 0 < k = omega (arith, some, le) in
    empty_is_none number_of false (under number_of k seen)
    (sym (reserved_is seen k some_k) ∙ still_reserved number_of false first.known seen (entry_of k) others is.1 (reserved_is first.known.front k some_k ∙ ap is_empty (fresh k le)))

pub fresh_after : {D : Type 0} (lock : TableId) (first after : Caller Entry D) (n reply : ℕ) → IsFirst lock first → 0 < n → IsFresh first.known.front n
    → Adds first (entry_of n) after reply → IsFresh after.known.front (n + 1)
fresh_after lock first after n reply is some fresh r = subst (λ (f : List Entry). IsFresh f (n + 1)) (sym (ap (λ c. c.known.front) r.caller))
    (λ k le. under_other number_of k r.seen (entry_of n) (λ e. omega (arith, e, le)) ∙ still_fresh lock first r.seen n is some fresh r.others k (omega (arith, le)))

made_own : (b c : Bool) (n : ℕ) (ns : List ℕ) → b ≡ false → has_number ns n ≡ c → has_number (cond b ns (cond c ns (n ∷ ns))) n ≡ true
made_own true c n ns not is = absurd (let z : true ≡ false = not in cc)
made_own false true n ns not is = is
made_own false false n ns not is = has_here ns n

-- the new worker has the number, and its first addition
pub hired : {D : Type 0} (lock : TableId) (first after : Caller Entry D) (n reply : ℕ) → IsFirst lock first → 0 < n → IsFresh first.known.front n
    → Adds first (entry_of n) after reply → HasAdded lock n 1 (new_caller n after)
hired lock first after n reply is some fresh r = record {
  of = ap (λ c. c.lock) r.caller ∙ is.0;
  own = has_among n after.known.numbers (subst (λ k. has_number k.numbers n ≡ true) (sym (ap (λ c. c.known) r.caller))
      (made_own (n == 0) (has_number first.known.numbers n) n first.known.numbers (ne_eqb n 0 (λ zero. omega (arith, zero, some))) refl));
  additions_are = ap (λ c. under number_of n c.known.front) r.caller
      ∙ (under_own number_of r.seen (entry_of n) ∙ ap (λ xs. xs ++ entry_of n ∷ []) (still_fresh lock first r.seen n is some fresh r.others n (omega arith)));
}
