-- Steps at which no view changes: a word is read, or word 2 is written, of which the rule doesn't speak.
use Rattle.std.proofs.Common.{◌≡◌, ℕ, List, get_or, set, refl, ap, sym, subst, Option}
use mathlib.Core.Option.{some, none}
use lib.ListN.{get_elem?}
use lib.Seq.{set-get_or}
use Rattle.atomic_table.specs.Table.{State, Me, step, keeps, stepped, Allows}
use Rattle.atomic_table.proofs.Lists.{set_again}
use Rattle.turn_lock.specs.declared.view.View.{View}
use Rattle.turn_lock.specs.Meaning.{Meaning}
use Rattle.turn_lock.specs.Steps.{Notes}
use Rattle.turn_lock.specs.Rule.{Kept}

module _ {S E D : Type 0} (m : Meaning S E D) (opening : Option D) (seats : ℕ) where
  -- nothing changes
  pub unchanged : (word id : ℕ) (v : View E D) (c : List (ℕ × Option S)) (s : State (Option S) (View E D)) → Kept m opening seats s → get_elem? s.views id ≡ some v
      → Kept m opening seats (stepped s word (get_or s.words word 0) id c v keeps)
  unchanged word id v c s r at = subst (Kept m opening seats) (λ i. record { words = sym (set-get_or s.words word 0) i; homes = s.homes; views = sym (set_again s.views id v at) i }) r

  noted : (s : State (Option S) (View E D)) (n : ℕ) → Kept m opening seats s → Kept m opening seats record { words = set s.words 2 n; homes = s.homes; views = s.views }
  noted s n r = record {
    account = r.account;
    asleep = n;
    words = ap (λ (ws : List ℕ). set ws 2 n) r.words;
    slot = r.slot;
    each_seat = r.each_seat;
    each_ticket = r.each_ticket;
    each_number = r.each_number;
    longest = r.longest;
    tickets = r.tickets;
    seats_are = r.seats_are;
  }

  -- any seat may write word 2
  pub notes : (slots id : ℕ) (me : Me (Option S) (View E D)) (n : ℕ) → Allows (Kept m opening seats) slots id me 2 (λ _. n) (λ _. Notes (step slots 2 n 0 none) me n)
  notes slots id me n s r _ at _ = (
    me.0,
    keeps,
    tt,
    subst (λ (vs : List (View E D)). Kept m opening seats record { words = set s.words 2 n; homes = s.homes; views = vs }) (sym (set_again s.views id me.0 at)) (noted s n r),
    refl,
  )
