-- Two callers meet, and what the first has seen then.
use Rattle.std.proofs.Common.{◌≡◌, ◌≢◌, ℕ, ◌^◌, ◌<◌, ◌≤◌, Bool, true, false, List, [], length, get_or, set, refl, ap, sym, subst, ◌∙◌, inl, inr, ⊎_elim, arith, Option}
use mathlib.Core.Logic.{dite}
use mathlib.Core.Option.{some, none}
use native.Mathlib.Decide.{ℕ_discrete, dec_lt}
use lib.ListN.{get_elem?}
use Rattle.std.proofs.lemmas.List.Sums.{get_or-le-sum_by}
use Rattle.atomic_table.specs.Table.{State, Me, step, stepped, keeps, Allows, Joins}
use Rattle.atomic_table.proofs.Lists.{set_here, set_else}
use lib.Seq.{set-get_or}
use Rattle.turn_lock.specs.declared.view.View.{View}
use Rattle.turn_lock.specs.declared.view.Stage.{Stage}
use Rattle.turn_lock.specs.declared.view.Stage.TheVariants.{Idle, Waiting, Served, Spent}
use Rattle.turn_lock.specs.History.{has_number, IsMade, OthersAdded}
use Rattle.turn_lock.specs.Meaning.{Meaning}
use Rattle.turn_lock.specs.Steps.{met_view, spent_view, Compares}
use Rattle.turn_lock.specs.Rule.{tickets_at, seats_at, tickets_of, seats_of, Account, StageOk, NumberOk, LongestOk, SeatOk, Kept}
use Rattle.turn_lock.proofs.Numbers.{yes_no, merged, merged_same, merged_here, merged_else, has_append, has_left, has_right}
use Rattle.turn_lock.proofs.Prefixes.{Longer, longer_is, at_get, total_set}
use Rattle.turn_lock.proofs.Added.{added_between}
use Rattle.turn_lock.proofs.Frame.{idle_unserved, idle_ticketless, seats_stay, same_view, ticket_stays, number_stays, longest_stays, slot_stays}

moved_stage : {E : Type 0} (a : Account E) (f : ℕ → ℕ) (j : ℕ) (front : List E) (z : Stage) → StageOk a j front z → StageOk (record a { holder = f }) j front z
moved_stage a f j front Idle q = tt
moved_stage a f j front (Waiting t) q = record { low = q.low; high = q.high; owned = q.owned }
moved_stage a f j front (Served t) q = record { out = record { low = q.out.low; high = q.out.high; owned = q.out.owned }; next = q.next; whole = q.whole; busy = q.busy }
moved_stage a f j front Spent q = tt

module _ {S E D : Type 0} (m : Meaning S E D) (opening : Option D) (seats : ℕ) where
  -- no other seat is the first
  not_first : (s : State (Option S) (View E D)) (r : Kept m opening seats s) (id other : ℕ) (v u : View E D) → get_elem? s.views id ≡ some v → get_elem? s.views other ≡ some u → ¬ (other ≡ id)
      → v.known.first ≡ true → (b : Bool) → u.known.first ≡ b → u.known.first ≡ false
  not_first s r id other v u at was apart first true is = absurd (apart ((r.each_seat other u was).first is ∙ sym ((r.each_seat id v at).first first)))
  not_first s r id other v u at was apart first false is = is

  -- the other's numbers are with the first
  met_numbers : (s : State (Option S) (View E D)) (r : Kept m opening seats s) (id other : ℕ) (v u : View E D) → get_elem? s.views id ≡ some v → get_elem? s.views other ≡ some u → ¬ (other ≡ id)
      → get_elem? (set (set s.views id (met_view v u)) other spent_view) id ≡ some (met_view v u) → (n : ℕ) → IsMade m.number r.account.history n
      → NumberOk (record r.account { holder = merged r.account.holder u.known.numbers id }) (set (set s.views id (met_view v u)) other spent_view) n
  met_numbers s r id other v u at was apart here n made =
      let f : ℕ → ℕ = r.account.holder in
      let ks : List ℕ = u.known.numbers in
      let vs : List (View E D) = set (set s.views id (met_view v u)) other spent_view in
      let q = r.each_number n made in
      dite (ℕ_discrete (f n) id)
      (λ same. let has : has_number v.known.numbers n ≡ true = subst (λ (z : View E D). has_number z.known.numbers n ≡ true) (sym (same_view s.views id (f n) v q.0 at q.1 same)) q.2 in
      (met_view v u, ap (get_elem? vs) (merged_same f ks id n same) ∙ here, has_left v.known.numbers ks n has))
      (λ not_me. dite (ℕ_discrete (f n) other)
      (λ same. let has : has_number ks n ≡ true = subst (λ (z : View E D). has_number z.known.numbers n ≡ true) (sym (same_view s.views other (f n) u q.0 was q.1 same)) q.2 in
      (met_view v u, ap (get_elem? vs) (merged_here f ks id n has) ∙ here, has_right v.known.numbers ks n has))
      (λ not_it. (
        q.0,
        ap (get_elem? vs) (merged_else f ks id n (λ has. not_it ((r.each_seat other u was).numbers n has).0))
            ∙ (set_else (set s.views id (met_view v u)) other (f n) spent_view not_it ∙ (set_else s.views id (f n) (met_view v u) not_me ∙ q.1)),
        q.2,
      )))

  met_longest : (s : State (Option S) (View E D)) (r : Kept m opening seats s) (id other : ℕ) (v u : View E D) → get_elem? s.views id ≡ some v → get_elem? s.views other ≡ some u → seats_at v.stage ≡ 1
      → get_elem? (set (set s.views id (met_view v u)) other spent_view) id ≡ some (met_view v u) → Longer v.known.front u.known.front r.account.history
      → LongestOk r.account (set (set s.views id (met_view v u)) other spent_view)
  met_longest s r id other v u at was present here l = let q = r.longest in
      dite (ℕ_discrete q.0 id)
      (λ same. (id, met_view v u, here, present, l.whole (inl (ap (λ (z : View E D). z.known.front) (same_view s.views id q.0 v q.1 at q.2 same) ∙ q.4))))
      (λ not_me. dite (ℕ_discrete q.0 other)
      (λ same. (id, met_view v u, here, present, l.whole (inr (ap (λ (z : View E D). z.known.front) (same_view s.views other q.0 u q.1 was q.2 same) ∙ q.4))))
      (λ not_it. (q.0, q.1, set_else (set s.views id (met_view v u)) other q.0 spent_view not_it ∙ (set_else s.views id q.0 (met_view v u) not_me ∙ q.2), q.3, q.4)))

  -- what the first knows then
  met_seat : (s : State (Option S) (View E D)) (r : Kept m opening seats s) (id other : ℕ) (v u : View E D) → get_elem? s.views id ≡ some v → get_elem? s.views other ≡ some u
      → v.stage ≡ Idle → v.known.first ≡ true → Longer v.known.front u.known.front r.account.history
      → SeatOk m opening (record r.account { holder = merged r.account.holder u.known.numbers id }) id (met_view v u)
  met_seat s r id other v u at was idle first l =
      let a : Account E = r.account in
      let w : View E D = met_view v u in
      let f : ℕ → ℕ = a.holder in
      let ks : List ℕ = u.known.numbers in
      let qv = r.each_seat id v at in
      let qu = r.each_seat other u was in
      let this : OthersAdded m.number m.is_zero_shared v.known w.known.front = added_between m.number m.is_zero_shared v.known w.known.front a.history qv.known l.this l.begins in
      let that : OthersAdded m.number m.is_zero_shared u.known w.known.front = added_between m.number m.is_zero_shared u.known w.known.front a.history qu.known l.that l.begins in record {
        stage = subst (λ z. StageOk (record a { holder = merged f ks id }) id w.known.front z) (sym idle) tt;
        known = record {
          begins = l.begins;
          own = λ n has. ⊎_elim (λ (z : has_number v.known.numbers n ≡ true). qv.known.own n z ∙ sym (this.own n z)) (λ (z : has_number ks n ≡ true). qu.known.own n z ∙ sym (that.own n z))
              (has_append v.known.numbers ks n has);
          first = λ is. qv.known.first is ∙ sym (this.first is);
        };
        olds = (this, (that, tt));
        numbers = λ n has. ⊎_elim (λ (z : has_number v.known.numbers n ≡ true). let o = qv.numbers n z in (merged_same f ks id n o.0, o.1))
            (λ (z : has_number ks n ≡ true). (merged_here f ks id n z, (qu.numbers n z).1)) (has_append v.known.numbers ks n has);
        first = qv.first;
        spare = λ no_first. absurd (yes_no v.known.first first no_first);
        knows = qv.knows;
      }

  -- the first seat may take in what another has seen
  pub joins : (id other : ℕ) (v u : View E D) → v.stage ≡ Idle → u.stage ≡ Idle → v.known.first ≡ true → Joins (Kept m opening seats) id v other u (met_view v u) spent_view
  joins id other v u idle idle' first s r at apart at' =
      let a : Account E = r.account in
      let w : View E D = met_view v u in
      let f : ℕ → ℕ = merged a.holder u.known.numbers id in
      let a' : Account E = record a { holder = f } in
      let vs : List (View E D) = set s.views id w in
      let was : get_elem? s.views other ≡ some u = sym (set_else s.views id other w apart) ∙ at' in
      let here : get_elem? (set vs other spent_view) id ≡ some w = set_else vs other id spent_view (λ e. apart (sym e)) ∙ set_here s.views id w (at_get s.views id v at).0 in
      let qu = r.each_seat other u was in
      let l = longer_is v.known.front u.known.front a.history (r.each_seat id v at).known.begins qu.known.begins (dec_lt (length v.known.front) (length u.known.front)) in
      let bare : u.spare ≡ 0 = qu.spare (not_first s r id other v u at was apart first u.known.first refl) in record {
        account = a';
        asleep = r.asleep;
        words = r.words;
        slot = slot_stays m opening seats a' a.waiting a.owner f s.homes vs a.busy other u spent_view at' (idle_unserved u.stage idle') (λ _. refl)
            (slot_stays m opening seats a a.waiting a.owner f s.homes s.views a.busy id v w at (idle_unserved v.stage idle) (λ _. refl) r.slot);
        each_seat = seats_stay (SeatOk m opening a') vs other spent_view
            record {
              stage = tt;
              known = record { begins = (a.history, refl); own = λ n has. absurd (let z : false ≡ true = has in cc); first = λ is. absurd (let z : false ≡ true = is in cc) };
              olds = tt;
              numbers = λ n has. absurd (let z : false ≡ true = has in cc);
              first = λ is. absurd (let z : false ≡ true = is in cc);
              spare = λ _. refl;
              knows = λ present. absurd (omega (arith, present));
            }
            (λ j d not_it there. seats_stay (λ i z. i ≢ other → SeatOk m opening a' i z) s.views id w (λ _. met_seat s r id other v u at was idle first l)
            (λ i o not_me at_i not_other. let p = r.each_seat i o at_i in record {
              stage = moved_stage a f i o.known.front o.stage p.stage;
              known = p.known;
              olds = p.olds;
              numbers = λ n has. let q = p.numbers n has in (merged_else a.holder u.known.numbers id n (λ z. not_other (sym q.0 ∙ (qu.numbers n z).0)) ∙ q.0, q.1);
              first = p.first;
              spare = p.spare;
              knows = p.knows;
            }) j d there not_it);
        each_ticket = λ t low high. ticket_stays a vs t other u spent_view at' (idle_ticketless u.stage idle' t) (ticket_stays a s.views t id v w at (idle_ticketless v.stage idle t) (r.each_ticket t low high));
        each_number = met_numbers s r id other v u at was apart here;
        longest = met_longest s r id other v u at was (ap seats_at idle) here l;
        tickets = omega (arith, total_set tickets_of vs other u spent_view at', total_set tickets_of s.views id v w at, ap tickets_at idle, ap tickets_at idle', r.tickets);
        seats_are = omega (arith, total_set seats_of vs other u spent_view at', total_set seats_of s.views id v w at, ap seats_at idle, ap seats_at idle', r.seats_are, bare);
      }

  -- no seat carries as many as there are
  carried : (s : State (Option S) (View E D)) → Kept m opening seats s → (id : ℕ) (v : View E D) → get_elem? s.views id ≡ some v → v.spare ≤ seats
  carried s r id v at = let here = at_get s.views id v at in
      let part = get_or-le-sum_by seats_of s.views id v here.0 in
      let same : seats_of (get_or s.views id v) ≡ seats_of v = ap seats_of here.1 in
      omega (arith, part, same, r.seats_are)

  compared : (id : ℕ) (v : View E D) → v.stage ≡ Idle → (s : State (Option S) (View E D)) (r : Kept m opening seats s) → get_elem? s.views id ≡ some v → (c : List (ℕ × Option S))
      → Kept m opening seats (stepped s 0 (get_or s.words 0 0) id c (record v { olds = [] }) keeps)
  compared id v idle s r at c =
      let a : Account E = r.account in
      let w : View E D = record v { olds = [] } in
      let q = r.each_seat id v at in record {
        account = a;
        asleep = r.asleep;
        words = set-get_or s.words 0 0 ∙ r.words;
        slot = slot_stays m opening seats a a.waiting a.owner a.holder s.homes s.views a.busy id v w at (idle_unserved v.stage idle) (λ _. refl) r.slot;
        each_seat = seats_stay (SeatOk m opening a) s.views id w
            record { stage = q.stage; known = q.known; olds = tt; numbers = q.numbers; first = q.first; spare = q.spare; knows = q.knows } (λ j d other there. r.each_seat j d there);
        each_ticket = λ t low high. ticket_stays a s.views t id v w at (idle_ticketless v.stage idle t) (r.each_ticket t low high);
        each_number = λ n made. number_stays a s.views n id v w at (λ has. has) (r.each_number n made);
        longest = longest_stays a s.views id v w at (ap seats_at idle) (λ e. e) r.longest;
        tickets = omega (arith, total_set tickets_of s.views id v w at, r.tickets);
        seats_are = omega (arith, total_set seats_of s.views id v w at, r.seats_are);
      }

  -- a seat that has met another may compare its front
  pub compares : seats < 2 ^ 32 → (slots id : ℕ) (me : Me (Option S) (View E D)) → me.0.stage ≡ Idle → Allows (Kept m opening seats) slots id me 0 (λ n. n) (Compares m (step slots 0 0 0 none) me)
  compares few slots id me idle s r _ at _ = (
    record me.0 { olds = [] },
    keeps,
    tt,
    compared id me.0 idle s r at me.1,
    (refl, (r.each_seat id me.0 at).olds, omega (arith, carried s r id me.0 at, few)),
  )
