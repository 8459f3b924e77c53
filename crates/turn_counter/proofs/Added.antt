-- What an addition leaves under the caller's number.
use Rattle.std.proofs.Common.{◌≡◌, ℕ, ◌+◌, ◌==◌, suc, ◌%◌, ◌^◌, Bool, true, false, List, [], ◌∷◌, ◌++◌, ap, sym, subst, ◌∙◌, cond, arith}
use Rattle.atomic_table.specs.Seated.{TableId}
use Rattle.turn_lock.specs.History.{has_number, under}
use Rattle.turn_lock.specs.Callers.{Caller}
use Rattle.turn_lock.proofs.Added.{under_own}
use Rattle.turn_lock.proofs.Numbers.{has_later}
use Rattle.turn_counter.specs.declared.entry.Entry.{Entry}
use Rattle.turn_counter.specs.Sums.{number_of, additions, total_of, Adds}
use Rattle.turn_counter.specs.Workers.{HasAdded}

-- the numbers stay the caller's
keeps_numbers : (b c : Bool) (n k : ℕ) (ns : List ℕ) → has_number ns k ≡ true → has_number (cond b ns (cond c ns (n ∷ ns))) k ≡ true
keeps_numbers true c n k ns h = h
keeps_numbers false true n k ns h = h
keeps_numbers false false n k ns h = has_later ns n k h

pub added_one : {D : Type 0} (lock : TableId) (number times reply : ℕ) (before after : Caller Entry D) → HasAdded lock number times before
    → Adds before (record { number = number; amount = times }) after reply → HasAdded lock number (times + 1) after
added_one lock number times reply before after q r =
    let e : Entry = record { number = number; amount = times } in record {
      of = ap (λ c. c.lock) r.caller ∙ q.of;
      own = subst (λ k. has_number k.numbers number ≡ true) (sym (ap (λ c. c.known) r.caller))
          (keeps_numbers (number == 0) (has_number before.known.numbers number) number number before.known.numbers q.own);
      additions_are = ap (λ c. under number_of number c.known.front) r.caller
          ∙ (under_own number_of r.seen e ∙ (ap (λ xs. xs ++ e ∷ []) (r.others.own number q.own ∙ q.additions_are) ∙ ap (additions number) (let n : suc times ≡ times + 1 = omega arith in n)));
    }

-- the reply is the sum of all that the caller has seen by then
pub replied : {D : Type 0} (before after : Caller Entry D) (e : Entry) (reply : ℕ) → Adds before e after reply → reply ≡ total_of after.known.front % 2 ^ 64
replied before after e reply r = r.sum ∙ ap (λ c. total_of c.known.front % 2 ^ 64) (sym r.caller)
