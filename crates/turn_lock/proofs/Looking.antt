-- A look at the ticket that is served, and what two fronts have that met.
use Rattle.std.proofs.Common.{◌≡◌, ◌⊎◌, ℕ, ◌%◌, ◌^◌, ◌<◌, ◌==◌, true, List, [], ◌∷◌, length, get_or, set, refl, ap, sym, subst, ◌∙◌, inl, inr, arith, Option, Some, MatchBool, eq-eqb, ne_eqb}
use mathlib.Core.Logic.{dite}
use mathlib.Core.Option.{some, none}
use native.Mathlib.Decide.{ℕ_discrete}
use lib.ListN.{get_elem?}
use lib.Seq.{set-get_or}
use Rattle.atomic_table.specs.Table.{State, Me, step, keeps, takes, stepped, Allows}
use Rattle.atomic_table.proofs.Lists.{set_here}
use Rattle.turn_lock.specs.declared.view.View.{View}
use Rattle.turn_lock.specs.declared.view.Stage.{Stage}
use Rattle.turn_lock.specs.declared.view.Stage.TheVariants.{Idle, Waiting, Served, Spent}
use Rattle.turn_lock.specs.History.{OthersAdded}
use Rattle.turn_lock.specs.Meaning.{Meaning, ComesFrom}
use Rattle.turn_lock.specs.Steps.{served_view, EachAdded, Takes, SeesServed}
use Rattle.turn_lock.specs.Rule.{tickets_at, seats_at, tickets_of, seats_of, Account, StageOk, SeatOk, Kept}
use Rattle.turn_lock.proofs.Prefixes.{at_get, total_set}
use Rattle.turn_lock.proofs.Added.{added_whole}
use Rattle.turn_lock.proofs.Unchanged.{unchanged}
use Rattle.turn_lock.proofs.Frame.{seats_stay, ticket_stays, number_stays, longest_stays, moved, at_stage, at_home, my_turn, not_busy}

-- another seat's stage, once a seat is served
stage_stays : {E : Type 0} (a : Account E) (j : ℕ) (f : List E) (z : Stage) → StageOk a j f z → StageOk (record a { busy = true }) j f z
stage_stays a j f Idle q = tt
stage_stays a j f (Waiting t) q = record { low = q.low; high = q.high; owned = q.owned }
stage_stays a j f (Served t) q = record { out = record { low = q.out.low; high = q.out.high; owned = q.out.owned }; next = q.next; whole = q.whole; busy = refl }
stage_stays a j f Spent q = tt

waits_for : (z : Stage) (t u : ℕ) → z ≡ Waiting t → (z ≡ Waiting u) ⊎ (z ≡ Served u) → u ≡ t
waits_for z t u is (inl e) = let p : Waiting u ≡ Waiting t = sym e ∙ is in cc
waits_for z t u is (inr e) = let p : Served u ≡ Waiting t = sym e ∙ is in cc

module _ {S E D : Type 0} (m : Meaning S E D) (opening : Option D) (seats : ℕ) where
  record Taken (s : State (Option S) (View E D)) (id : ℕ) (v : View E D) (t : ℕ) : Type 0 where
    state : S
    home : get_elem? s.homes 0 ≡ some (some (Some state))
    kept : Kept m opening seats (stepped s 0 (get_or s.words 0 0) id [] (served_view t (m.entries state) v) (takes 0 (Some state)))
    added : OthersAdded m.number m.is_zero_shared v.known (m.entries state)
    comes : ComesFrom m.comes v.opening (m.plain state)

  taken : seats < 2 ^ 32 → (id : ℕ) (v : View E D) (t : ℕ) → v.stage ≡ Waiting t → v.olds ≡ [] → (s : State (Option S) (View E D)) (r : Kept m opening seats s) → get_elem? s.views id ≡ some v
      → get_or s.words 0 0 ≡ t % 2 ^ 64 → Taken s id v t
  taken few id v t is bare s r at found =
      let a : Account E = r.account in
      let a' : Account E = record a { busy = true } in
      let turn : length a.history ≡ t = my_turn m opening seats few s r id v t at is found in
      let home = at_home m opening seats s r (not_busy m opening seats s r id v t at is turn a.busy refl) in
      let x : S = home.0 in
      let w : View E D = served_view t (m.entries x) v in
      let known = at_stage m opening seats s r id v (Waiting t) at is in
      let q = r.each_seat id v at in
      let opened : v.opening ≡ opening = q.knows (ap seats_at is) in
      let here : get_elem? (set s.views id w) id ≡ some w = set_here s.views id w (at_get s.views id v at).0 in record {
        state = x;
        home = ap (λ (hs : List _). get_elem? hs 0) home.1;
        kept = record {
          account = a';
          asleep = r.asleep;
          words = set-get_or s.words 0 0 ∙ r.words;
          slot = (ap (λ (hs : List _). set hs 0 none) home.1, (w, ap (get_elem? (set s.views id w)) (ap a.owner turn ∙ known.owned) ∙ here, ap Served (sym turn)));
          each_seat = seats_stay (SeatOk m opening a') s.views id w
              record {
                stage = record { out = record { low = known.low; high = known.high; owned = known.owned }; next = sym turn; whole = home.2; busy = refl };
                known = added_whole m.number m.is_zero_shared w.known a.history home.2;
                olds = subst (λ os. EachAdded m.number m.is_zero_shared os (m.entries x)) (sym bare) tt;
                numbers = q.numbers;
                first = q.first;
                spare = q.spare;
                knows = λ _. opened;
              }
              (λ j d other there. let o = r.each_seat j d there in moved m opening seats a a.waiting a.owner true j d o (stage_stays a j d.known.front d.stage o.stage));
          each_ticket = λ u low high. dite (ℕ_discrete u t)
              (λ same. (w, ap (get_elem? (set s.views id w)) (ap a.owner same ∙ known.owned) ∙ here, inr (ap Served (sym same))))
              (λ other. ticket_stays a' s.views u id v w at (λ e. other (waits_for v.stage t u is e)) (r.each_ticket u low high));
          each_number = λ n made. number_stays a' s.views n id v w at (λ has. has) (r.each_number n made);
          longest = longest_stays a' s.views id v w at refl (λ _. home.2) r.longest;
          tickets = omega (arith, total_set tickets_of s.views id v w at, ap tickets_at is, r.tickets);
          seats_are = omega (arith, total_set seats_of s.views id v w at, ap seats_at is, r.seats_are);
        };
        added = subst (λ (z : List E). OthersAdded m.number m.is_zero_shared v.known z) (sym home.2) q.known;
        comes = subst (λ (z : Option D). ComesFrom m.comes z (m.plain x)) (sym opened) home.3;
      }

  abbrev Told : View E D → ℕ → Me (Option S) (View E D) → ℕ → Type 0
  Told v n me' t = MatchBool (n == t % 2 ^ 64) (Takes m v t me') (me' ≡ (v, []))

  looks : seats < 2 ^ 32 → (slots id : ℕ) (v : View E D) (t : ℕ) → v.stage ≡ Waiting t → v.olds ≡ [] → Allows (Kept m opening seats) slots id (v, []) 0 (λ n. n) (SeesServed m (step slots 0 0 0 none) (v, []))
  looks few slots id v t is bare s r _ at _ = dite (ℕ_discrete (get_or s.words 0 0) (t % 2 ^ 64))
      (λ found. let q = taken few id v t is bare s r at found in
      let me' : Me (Option S) (View E D) = (served_view t (m.entries q.state) v, (0, Some q.state) ∷ []) in (
        me'.0,
        takes 0 (Some q.state),
        q.home,
        q.kept,
        λ u is'. let same : t ≡ u = let p : Waiting t ≡ Waiting u = sym is ∙ is' in cc in
            subst (Told v (get_or s.words 0 0) me') same
            (rw (eq-eqb (get_or s.words 0 0) (t % 2 ^ 64) found) record { state = q.state; view = refl; slot = refl; added = q.added; comes = q.comes }),
      ))
      (λ other. (
        v,
        keeps,
        tt,
        unchanged m opening seats 0 id v [] s r at,
        λ u is'. let same : t ≡ u = let p : Waiting t ≡ Waiting u = sym is ∙ is' in cc in
            subst (Told v (get_or s.words 0 0) (v, [])) same (rw (ne_eqb (get_or s.words 0 0) (t % 2 ^ 64) other) refl),
      ))

  -- a seat that waits may look
  pub looks_at : seats < 2 ^ 32 → (slots id : ℕ) (me : Me (Option S) (View E D)) (t : ℕ) → me.0.stage ≡ Waiting t → me.1 ≡ [] → me.0.olds ≡ []
      → Allows (Kept m opening seats) slots id me 0 (λ n. n) (SeesServed m (step slots 0 0 0 none) me)
  looks_at few slots id me t is bare none_met =
      subst (λ (z : List (ℕ × Option S)). Allows (Kept m opening seats) slots id (me.0, z) 0 (λ n. n) (SeesServed m (step slots 0 0 0 none) (me.0, z))) (sym bare) (looks few slots id me.0 t is none_met)

-- what a look tells where the number is the ticket
pub told_mine : {S E D : Type 0} (m : Meaning S E D) (me me' : Me (Option S) (View E D)) (n k t : ℕ) → me.0.stage ≡ Waiting t → t % 2 ^ 64 ≡ k → n ≡ k → SeesServed m (step 0 0 0 0 none) me n me' → Takes m me.0 t me'
told_mine m me me' n k t is ticket same told = rw (eq-eqb n (t % 2 ^ 64) (same ∙ sym ticket)) at (told t is)
