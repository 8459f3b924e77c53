-- A ticket is drawn.
use Rattle.std.proofs.Common.{◌≡◌, ℕ, ◌+◌, ◌%◌, ◌^◌, ◌==◌, List, [], ◌∷◌, length, get_or, set, refl, ap, sym, subst, ◌∙◌, inl, arith, Option, eq-eqb, ne_eqb}
use mathlib.Core.Logic.{dite}
use mathlib.Core.Option.{none}
use native.Mathlib.Decide.{ℕ_discrete}
use lib.ListN.{get_elem?}
use mathlib.Core.Option.{some}
use Rattle.std.proofs.Math.Nat.{mod-add-mod}
use prog.Atomic.{either}
use Rattle.atomic_table.specs.Table.{State, Me, Act, step, keeps, stepped, carried_after, Valid, Allows}
use Rattle.atomic_table.proofs.Lists.{set_here, exchanged}
use Rattle.turn_lock.specs.declared.view.View.{View}
use Rattle.turn_lock.specs.declared.view.Stage.{Stage}
use Rattle.turn_lock.specs.declared.view.Stage.TheVariants.{Idle, Waiting, Served, Spent}
use Rattle.turn_lock.specs.Meaning.{Meaning}
use Rattle.turn_lock.specs.Steps.{waiting_view, Draws, DrawsThis}
use Rattle.turn_lock.specs.Rule.{tickets_at, seats_at, tickets_of, seats_of, Account, StageOk, SeatOk, Kept}
use Rattle.turn_lock.proofs.Numbers.{put, put_here, put_else}
use Rattle.turn_lock.proofs.Prefixes.{at_get, total_set}
use Rattle.turn_lock.proofs.Unchanged.{unchanged}
use Rattle.turn_lock.proofs.Frame.{idle_unserved, idle_ticketless, seats_stay, ticket_stays, number_stays, longest_stays, restaged, moved, slot_stays, busy_waits}

-- another seat's stage
stage_stays : {E : Type 0} (a : Account E) (id j : ℕ) (f : List E) (z : Stage) → StageOk a j f z
    → StageOk (record a { waiting = a.waiting + 1; owner = put a.owner (length a.history + a.waiting) id }) j f z
stage_stays a id j f Idle q = tt
stage_stays a id j f (Waiting t) q = record { low = q.low; high = omega (arith, q.high); owned = put_else a.owner (length a.history + a.waiting) id t (λ e. omega (arith, q.high)) ∙ q.owned }
stage_stays a id j f (Served t) q = record {
  out = record { low = q.out.low; high = omega (arith, q.out.high); owned = put_else a.owner (length a.history + a.waiting) id t (λ e. omega (arith, q.out.high)) ∙ q.out.owned };
  next = q.next;
  whole = q.whole;
  busy = q.busy;
}
stage_stays a id j f Spent q = tt

module _ {S E D : Type 0} (m : Meaning S E D) (opening : Option D) (seats : ℕ) where
  drawn : (id : ℕ) (v : View E D) → v.stage ≡ Idle → (s : State (Option S) (View E D)) (r : Kept m opening seats s) → get_elem? s.views id ≡ some v
      → Kept m opening seats (stepped s 1 ((get_or s.words 1 0 + 1) % 2 ^ 64) id [] (waiting_view (length r.account.history + r.account.waiting) v) keeps)
  drawn id v idle s r at =
      let a : Account E = r.account in
      let t : ℕ = length a.history + a.waiting in
      let a' : Account E = record a { waiting = a.waiting + 1; owner = put a.owner t id } in
      let w : View E D = waiting_view t v in
      let here : get_elem? (set s.views id w) id ≡ some w = set_here s.views id w (at_get s.views id v at).0 in record {
        account = a';
        asleep = r.asleep;
        words = ap (λ (ws : List ℕ). set ws 1 ((get_or ws 1 0 + 1) % 2 ^ 64)) r.words
            ∙ ap (λ (n : ℕ). length a.history % 2 ^ 64 ∷ n ∷ r.asleep ∷ []) (mod-add-mod t (2 ^ 64) 1 ∙ ap (λ (n : ℕ). n % 2 ^ 64) (let e : t + 1 ≡ length a.history + (a.waiting + 1) = omega arith in e));
        slot = slot_stays m opening seats a (a.waiting + 1) (put a.owner t id) a.holder s.homes s.views a.busy id v w at (idle_unserved v.stage idle)
            (λ e. put_else a.owner t id (length a.history) (λ same. let some_wait = busy_waits m opening seats s r e in omega arith)) r.slot;
        each_seat = seats_stay (SeatOk m opening a') s.views id w
            (restaged m opening seats a (a.waiting + 1) (put a.owner t id) a.busy id v (Waiting t) (r.each_seat id v at) (ap seats_at idle) record { low = omega arith; high = omega arith; owned = put_here a.owner t id })
            (λ j d other there. let q = r.each_seat j d there in moved m opening seats a (a.waiting + 1) (put a.owner t id) a.busy j d q (stage_stays a id j d.known.front d.stage q.stage));
        each_ticket = λ u low high. dite (ℕ_discrete u t)
            (λ same. (w, ap (get_elem? (set s.views id w)) (ap (put a.owner t id) same ∙ put_here a.owner t id) ∙ here, inl (ap Waiting (sym same))))
            (λ other. let q = ticket_stays a s.views u id v w at (idle_ticketless v.stage idle u) (r.each_ticket u low (omega arith)) in
            (q.0, ap (get_elem? (set s.views id w)) (put_else a.owner t id u other) ∙ q.1, q.2));
        each_number = λ n made. number_stays a' s.views n id v w at (λ has. has) (r.each_number n made);
        longest = longest_stays a' s.views id v w at refl (λ e. e) r.longest;
        tickets = omega (arith, total_set tickets_of s.views id v w at, ap tickets_at idle, r.tickets);
        seats_are = omega (arith, total_set seats_of s.views id v w at, ap seats_at idle, r.seats_are);
      }

  draws : (slots id : ℕ) (v : View E D) → v.stage ≡ Idle → Allows (Kept m opening seats) slots id (v, []) 1 (λ n. (n + 1) % 2 ^ 64) (Draws (step slots 1 1 0 none) (v, []))
  draws slots id v idle s r _ at _ =
      let t : ℕ = length r.account.history + r.account.waiting in
      (waiting_view t v, keeps, tt, drawn id v idle s r at, (refl, (t, sym (ap (λ (ws : List ℕ). get_or ws 1 0) r.words), refl)))

  -- an idle seat may draw a ticket
  pub draws_at : (slots id : ℕ) (me : Me (Option S) (View E D)) → me.0.stage ≡ Idle → me.1 ≡ []
      → Allows (Kept m opening seats) slots id me 1 (λ n. (n + 1) % 2 ^ 64) (Draws (step slots 1 1 0 none) me)
  draws_at slots id me idle bare = subst (λ (z : List (ℕ × Option S)). Allows (Kept m opening seats) slots id (me.0, z) 1 (λ n. (n + 1) % 2 ^ 64) (Draws (step slots 1 1 0 none) (me.0, z))) (sym bare) (draws slots id me.0 idle)

  -- an idle seat may draw this ticket, where it is the next one
  pub draws_this_at : (slots id : ℕ) (me : Me (Option S) (View E D)) (old new : ℕ) → new ≡ (old + 1) % 2 ^ 64 → me.0.stage ≡ Idle → me.1 ≡ []
      → Allows (Kept m opening seats) slots id me 1 (λ n. either (n == old) new n) (DrawsThis (step slots 1 old new none) me)
  draws_this_at slots id me old new after idle bare s r len at low =
      let n : ℕ = get_or s.words 1 0 in
      exchanged n old new
      (λ k. (w : View E D) × (a : Act (Option S)) × Valid s.homes me.1 a × Kept m opening seats (stepped s 1 k id me.1 w a) × DrawsThis (step slots 1 old new none) me n (w, carried_after me.1 a))
      (λ same. let q = draws_at slots id me idle bare s r len at low in (
        q.0,
        q.1,
        q.2,
        subst (λ k. Kept m opening seats (stepped s 1 k id me.1 q.0 q.1)) (ap (λ k. (k + 1) % 2 ^ 64) same ∙ sym after) q.3,
        rw (eq-eqb n old same) q.4,
      ))
      (λ other. (me.0, keeps, tt, unchanged m opening seats 1 id me.0 me.1 s r at, rw (ne_eqb n old other) refl))
