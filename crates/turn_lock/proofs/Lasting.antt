-- The lock at its beginning and at its end.
use Rattle.std.proofs.Common.{◌≡◌, ℕ, zero, suc, ◌<◌, Bool, true, false, List, [], ◌∷◌, length, get_or, set, refl, ap, sym, subst, ◌∙◌, arith, Option, Some}
use mathlib.Core.Logic.{dite}
use mathlib.Core.Option.{some, some-injective, some-ne-none}
use native.Mathlib.Decide.{ℕ_discrete}
use lib.ListN.{get_elem?}
use Rattle.std.proofs.lemmas.List.Sums.{get_or-le-sum_by}
use Rattle.atomic_table.specs.Table.{State, opening as opened, Final, Seen}
use Rattle.atomic_table.proofs.Lists.{set_else}
use Rattle.turn_lock.specs.declared.view.View.{View}
use Rattle.turn_lock.specs.declared.view.Stage.TheVariants.{Idle, Served}
use Rattle.turn_lock.specs.Meaning.{Meaning, ComesFrom}
use Rattle.turn_lock.specs.Steps.{spent_view}
use Rattle.turn_lock.specs.Rule.{seats_at, seats_of, first_view, Account, SeatOk, Kept}
use Rattle.turn_lock.proofs.Prefixes.{prefix_self, at_get, total_set}
use Rattle.turn_lock.proofs.Frame.{same_view, serving, at_home}

module _ {S E D : Type 0} (m : Meaning S E D) (opening : Option D) (seats : ℕ) where
  abbrev fresh : Account E
  fresh = record { history = []; waiting = 0; owner = λ _. 0; holder = λ _. 0; busy = false }

  first_seat : SeatOk m opening fresh 0 (first_view opening seats)
  first_seat = record {
    stage = tt;
    known = record { begins = prefix_self []; own = λ n has. refl; first = λ _. refl };
    olds = tt;
    numbers = λ n has. absurd (let z : false ≡ true = has in cc);
    first = λ _. refl;
    spare = λ no_first. absurd (let z : true ≡ false = no_first in cc);
    knows = λ _. refl;
  }

  first_seats : (j : ℕ) (d : View E D) → get_elem? (first_view opening seats ∷ []) j ≡ some d → SeatOk m opening fresh j d
  first_seats zero d e = subst (λ (z : View E D). SeatOk m opening fresh 0 z) (some-injective _ d e) first_seat
  first_seats (suc j) d e = absurd (some-ne-none d (sym e))

  -- a lock begins with a state that stands for no entry, and comes from itself
  pub opens : (x : S) → 0 < seats → m.entries x ≡ [] → ComesFrom m.comes opening (m.plain x) → Kept m opening seats (opened (0 ∷ 0 ∷ 0 ∷ []) (Some x ∷ []) (first_view opening seats))
  opens x some_seat none_yet comes = record {
    account = fresh;
    asleep = 0;
    words = refl;
    slot = (x, refl, none_yet, comes);
    each_seat = first_seats;
    each_ticket = λ t low high. absurd (omega (arith, high));
    each_number = λ n made. absurd (made.1 refl);
    longest = (0, first_view opening seats, refl, refl, refl);
    tickets = refl;
    seats_are = omega (arith, some_seat);
  }

  -- where one seat stands for all, no other is unspent
  alone : (s : State (Option S) (View E D)) (r : Kept m opening seats s) (id : ℕ) (v : View E D) → get_elem? s.views id ≡ some v → seats_of v ≡ seats
      → (j : ℕ) (d : View E D) → get_elem? s.views j ≡ some d → seats_at d.stage ≡ 1 → j ≡ id
  alone s r id v at all j d there present = dite (ℕ_discrete j id) (λ e. e) (λ other.
      let rest : List (View E D) = set s.views id spent_view in
      let total = total_set seats_of s.views id v spent_view at in
      let here = at_get rest j d (set_else s.views id j spent_view other ∙ there) in
      let part = get_or-le-sum_by seats_of rest j d here.0 in
      let same : seats_of (get_or rest j d) ≡ seats_of d = ap seats_of here.1 in
      absurd (omega (arith, total, part, same, r.seats_are, present, all)))

  idle_slot : (s : State (Option S) (View E D)) (r : Kept m opening seats s) (id : ℕ) (v : View E D) → get_elem? s.views id ≡ some v → v.stage ≡ Idle → seats_of v ≡ seats
      → (b : Bool) → r.account.busy ≡ b → r.account.busy ≡ false
  idle_slot s r id v at idle all false e = e
  idle_slot s r id v at idle all true e =
      let u = serving m opening seats s r e in
      let it = alone s r id v at all (r.account.owner (length r.account.history)) u.0 u.1 (ap seats_at u.2) in
      let same = same_view s.views id (r.account.owner (length r.account.history)) v u.0 at u.1 it in
      let bad : Idle ≡ Served (length r.account.history) = sym idle ∙ (ap (λ (z : View E D). z.stage) same ∙ u.2) in cc

  -- what the slot holds where one idle seat is all that is left
  pub record Last (slots : List (Option S)) (v : View E D) : Type 0 where
    pub state : S
    pub there : get_elem? slots 0 ≡ some (Some state)
    pub entries : m.entries state ≡ v.known.front
    pub comes : ComesFrom m.comes v.opening (m.plain state)

  pub closes : (words : List ℕ) (slots : List (Option S)) (id : ℕ) (v : View E D) → v.stage ≡ Idle → seats_of v ≡ seats → Final (Seen (Kept m opening seats) id v) words slots → Last slots v
  closes words slots id v idle all q =
      let s : State (Option S) (View E D) = q.0 in
      let r : Kept m opening seats s = q.1.0 in
      let at : get_elem? s.views id ≡ some v = q.1.1 in
      let mine : r.longest.0 ≡ id = alone s r id v at all r.longest.0 r.longest.1 r.longest.2 r.longest.3 in
      let front : v.known.front ≡ r.account.history = ap (λ (z : View E D). z.known.front) (same_view s.views id r.longest.0 v r.longest.1 at r.longest.2 mine) ∙ r.longest.4 in
      let home = at_home m opening seats s r (idle_slot s r id v at idle all r.account.busy refl) in
      let known : v.opening ≡ opening = (r.each_seat id v at).knows (ap seats_at idle) in record {
        state = home.0;
        there = q.4 0 (Some home.0) (ap (λ (hs : List _). get_elem? hs 0) home.1);
        entries = home.2 ∙ sym front;
        comes = subst (λ (o : Option D). ComesFrom m.comes o (m.plain home.0)) (sym known) home.3;
      }
