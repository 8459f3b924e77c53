-- The end of a turn.
use Rattle.std.proofs.Common.{◌≡◌, ◌≢◌, ◌⊎◌, ℕ, ◌+◌, ◌-◌, ◌%◌, ◌^◌, ◌<◌, ◌==◌, Bool, true, false, List, [], ◌∷◌, ◌++◌, length, get_or, set, refl, ap, sym, subst, ◌∙◌, inl, inr, ⊎_elim, arith, Option, Some, None, cond, eq-eqb, ne_eqb, length-append}
use mathlib.Core.Logic.{dite}
use mathlib.Core.Option.{some, none}
use native.Mathlib.Decide.{ℕ_discrete}
use lib.ListN.{get_elem?}
use Rattle.std.proofs.Math.Nat.{mod-add-mod}
use Rattle.atomic_table.specs.Table.{State, Me, step, gives, stepped, Allows}
use Rattle.atomic_table.proofs.Lists.{set_here}
use Rattle.turn_lock.specs.declared.view.View.{View}
use Rattle.turn_lock.specs.declared.view.Stage.{Stage}
use Rattle.turn_lock.specs.declared.view.Stage.TheVariants.{Idle, Waiting, Served, Spent}
use Rattle.turn_lock.specs.History.{has_number, IsMade, is_reserved, OthersAdded, MayAdd, known_after}
use Rattle.turn_lock.specs.Meaning.{Meaning, ComesFrom}
use Rattle.turn_lock.specs.Steps.{is_served, ended_view, EachAdded, Ends}
use Rattle.turn_lock.specs.Rule.{tickets_at, seats_at, tickets_of, seats_of, Account, StageOk, SeatOk, SlotOk, Kept}
use Rattle.turn_lock.proofs.Numbers.{yes_no, put, put_here, put_else, has_here, has_later, has_more}
use Rattle.turn_lock.proofs.Prefixes.{at_get, total_set}
use Rattle.turn_lock.proofs.Added.{made_more, made_here, made_before, added_self, added_more, made_unreserved, zero_unreserved, reserved_unmade}
use Rattle.turn_lock.proofs.Frame.{seats_stay, ticket_stays, number_stays, at_stage}

-- another seat's stage, once the seat that is served has added its entry
stage_stays : {E : Type 0} (a : Account E) (f : ℕ → ℕ) (id j : ℕ) (e : E) → 0 < a.waiting → a.owner (length a.history) ≡ id → j ≢ id
    → (front : List E) (z : Stage) → StageOk a j front z → StageOk (record { history = a.history ++ e ∷ []; waiting = a.waiting - 1; owner = a.owner; holder = f; busy = false }) j front z
stage_stays a f id j e waits mine other front Idle q = tt
stage_stays a f id j e waits mine other front (Waiting t) q =
    let apart : length a.history ≢ t = λ same. other (sym q.owned ∙ (ap a.owner (sym same) ∙ mine)) in
    let count = length-append a.history (e ∷ []) in
    record { low = omega (arith, q.low, count); high = omega (arith, q.high, count, waits); owned = q.owned }
stage_stays a f id j e waits mine other front (Served t) q = absurd (other (sym q.out.owned ∙ (ap a.owner q.next ∙ mine)))
stage_stays a f id j e waits mine other front Spent q = tt

served_at : (z : Stage) → is_served z ≡ true → (t : ℕ) × (z ≡ Served t)
served_at Idle p = absurd cc
served_at (Waiting t) p = absurd cc
served_at (Served t) p = (t, refl)
served_at Spent p = absurd cc

not_mine : (z : Stage) (t u : ℕ) → z ≡ Served t → u ≢ t → (z ≡ Waiting u) ⊎ (z ≡ Served u) → ⊥
not_mine z t u is n (inl q) = let p : Served t ≡ Waiting u = sym is ∙ q in cc
not_mine z t u is n (inr q) = let p : Served u ≡ Served t = sym q ∙ is in let same : u ≡ t = cc in n same

abbrev value_of : {A : Type 0} → A → Option A → A
value_of d None = d
value_of d (Some x) = x

abbrev first_value : {A : Type 0} → A → List (ℕ × Option A) → A
first_value d [] = d
first_value d (x ∷ xs) = value_of d x.1

last_is : {A : Type 0} (xs : List A) (a b : A) → xs ++ a ∷ [] ≡ xs ++ b ∷ [] → a ≡ b
last_is [] a b e = cc e
last_is (x ∷ xs) a b e = last_is xs a b (cc e)

module _ {S E D : Type 0} (m : Meaning S E D) (opening : Option D) (seats : ℕ) where
  -- the seats and their numbers, once the seat id has added the entry to the history
  record Added (s : State (Option S) (View E D)) (r : Kept m opening seats s) (id : ℕ) (v : View E D) (e : E) : Type 0 where
    holder : ℕ → ℕ
    mine : (n : ℕ) → has_number (known_after m.number e (r.account.history ++ e ∷ []) v.known).numbers n ≡ true → (holder n ≡ id) × IsMade m.number (r.account.history ++ e ∷ []) n
    others : (j : ℕ) (d : View E D) → j ≢ id → get_elem? s.views j ≡ some d
        → OthersAdded m.number m.is_zero_shared d.known (r.account.history ++ e ∷ []) × ((n : ℕ) → has_number d.known.numbers n ≡ true → (holder n ≡ j) × IsMade m.number (r.account.history ++ e ∷ []) n)
    numbers : (w : View E D) → w.known.numbers ≡ (known_after m.number e (r.account.history ++ e ∷ []) v.known).numbers → (n : ℕ) → IsMade m.number (r.account.history ++ e ∷ []) n
        → (u : View E D) × (get_elem? (set s.views id w) (holder n) ≡ some u) × (has_number u.known.numbers n ≡ true)

  -- the caller's numbers don't change
  added_old : (s : State (Option S) (View E D)) (r : Kept m opening seats s) (id : ℕ) (v : View E D) (e : E) → get_elem? s.views id ≡ some v
      → (known_after m.number e (r.account.history ++ e ∷ []) v.known).numbers ≡ v.known.numbers
      → (m.number e ≢ 0 → has_number v.known.numbers (m.number e) ≡ true)
      → ((j : ℕ) (d : View E D) → j ≢ id → get_elem? s.views j ≡ some d → d.known.first ≡ true → is_reserved m.number m.is_zero_shared r.account.history e ≡ false)
      → Added s r id v e
  added_old s r id v e at same own unreserved =
      let a : Account E = r.account in
      let q = r.each_seat id v at in
      let not_others : (j : ℕ) (d : View E D) → j ≢ id → get_elem? s.views j ≡ some d → (n : ℕ) → has_number d.known.numbers n ≡ true → m.number e ≢ n = λ j d other there n has z.
      let o = (r.each_seat j d there).numbers n has in
      let mine = q.numbers (m.number e) (own (λ zero. o.1.0 (sym z ∙ zero))) in
      other (sym o.0 ∙ (ap a.holder (sym z) ∙ mine.0)) in record {
        holder = a.holder;
        mine = λ n has. let o = q.numbers n (subst (λ ks. has_number ks n ≡ true) same has) in (o.0, made_more m.number a.history e n o.1);
        others = λ j d other there. let o = r.each_seat j d there in (
          added_more m.number m.is_zero_shared d.known a.history e o.known (not_others j d other there) (unreserved j d other there),
          λ n has. let p = o.numbers n has in (p.0, made_more m.number a.history e n p.1),
        );
        numbers = λ w keeps n made. let has_w : (k : ℕ) → has_number v.known.numbers k ≡ true → has_number w.known.numbers k ≡ true = λ k has. subst (λ ks. has_number ks k ≡ true) (sym (keeps ∙ same)) has in
            dite (ℕ_discrete (m.number e) n)
            (λ is. let mine = own (λ zero. made.0 (sym is ∙ zero)) in
            let mine_n : has_number v.known.numbers n ≡ true = subst (λ k. has_number v.known.numbers k ≡ true) is mine in
            (w, ap (get_elem? (set s.views id w)) (q.numbers n mine_n).0 ∙ set_here s.views id w (at_get s.views id v at).0, has_w n mine_n))
            (λ not. number_stays a s.views n id v w at (has_w n) (r.each_number n (made_before m.number a.history e n not made)));
      }

  -- the entry makes a new number
  added_new : (s : State (Option S) (View E D)) (r : Kept m opening seats s) (id : ℕ) (v : View E D) (e : E) → get_elem? s.views id ≡ some v
      → (known_after m.number e (r.account.history ++ e ∷ []) v.known).numbers ≡ m.number e ∷ v.known.numbers
      → v.known.first ≡ true → m.number e ≢ 0 → is_reserved m.number m.is_zero_shared r.account.history e ≡ true
      → Added s r id v e
  added_new s r id v e at same first some_number reserved =
      let a : Account E = r.account in
      let q = r.each_seat id v at in
      let k : ℕ = m.number e in
      let other_numbers : (n : ℕ) → IsMade m.number a.history n → k ≢ n = λ n made. reserved_unmade m.number m.is_zero_shared a.history e n reserved made in record {
        holder = put a.holder k id;
        mine = λ n has. ⊎_elim
            (λ (z : k ≡ n). (ap (put a.holder k id) (sym z) ∙ put_here a.holder k id, subst (λ x. IsMade m.number (a.history ++ e ∷ []) x) z (made_here m.number a.history e some_number)))
            (λ (z : has_number v.known.numbers n ≡ true). let o = q.numbers n z in (put_else a.holder k id n (λ x. other_numbers n o.1 (sym x)) ∙ o.0, made_more m.number a.history e n o.1))
            (has_more v.known.numbers k n (subst (λ ks. has_number ks n ≡ true) same has));
        others = λ j d other there. let o = r.each_seat j d there in (
          added_more m.number m.is_zero_shared d.known a.history e o.known (λ n has. other_numbers n (o.numbers n has).1)
              (λ is_first. absurd (other (o.first is_first ∙ sym (q.first first)))),
          λ n has. let p = o.numbers n has in (put_else a.holder k id n (λ x. other_numbers n p.1 (sym x)) ∙ p.0, made_more m.number a.history e n p.1),
        );
        numbers = λ w keeps n made. dite (ℕ_discrete k n)
            (λ is. (
              w,
              ap (get_elem? (set s.views id w)) (ap (put a.holder k id) (sym is) ∙ put_here a.holder k id) ∙ set_here s.views id w (at_get s.views id v at).0,
              subst (λ ks. has_number ks n ≡ true) (sym (keeps ∙ same)) (subst (λ x. has_number (k ∷ v.known.numbers) x ≡ true) is (has_here v.known.numbers k)),
            ))
            (λ not. let o = number_stays a s.views n id v w at (λ has. subst (λ ks. has_number ks n ≡ true) (sym (keeps ∙ same)) (has_later v.known.numbers k n has)) (r.each_number n (made_before m.number a.history e n not made)) in
            (o.0, ap (get_elem? (set s.views id w)) (put_else a.holder k id n (λ x. not (sym x))) ∙ o.1, o.2));
      }

  old_numbers : (b c : Bool) (ns more : List ℕ) → c ≡ true → cond b ns (cond c ns more) ≡ ns
  old_numbers true c ns more is = refl
  old_numbers false c ns more is = ap (λ z. cond z ns more) is

  -- whatever the entry is that the caller may add
  added_by : (s : State (Option S) (View E D)) (r : Kept m opening seats s) (id : ℕ) (v : View E D) (e : E) → get_elem? s.views id ≡ some v → v.known.front ≡ r.account.history
      → MayAdd m.number m.is_zero_shared v.known e → Added s r id v e
  added_by s r id v e at whole (inl own) =
      let n : ℕ = m.number e in
      added_old s r id v e at (old_numbers (n == 0) (has_number v.known.numbers n) v.known.numbers (n ∷ v.known.numbers) own) (λ _. own)
      (λ j d other there is_first. made_unreserved m.number m.is_zero_shared r.account.history e ((r.each_seat id v at).numbers n own).1)
  added_by s r id v e at whole (inr (inl first)) =
      let n : ℕ = m.number e in
      let ns : List ℕ = v.known.numbers in
      let q = r.each_seat id v at in
      let reserved : is_reserved m.number m.is_zero_shared r.account.history e ≡ true = subst (λ (h : List E). is_reserved m.number m.is_zero_shared h e ≡ true) whole first.1 in
      dite (ℕ_discrete n 0)
      (λ zero. added_old s r id v e at (ap (λ b. cond b ns (cond (has_number ns n) ns (n ∷ ns))) (eq-eqb n 0 zero)) (λ some. absurd (some zero))
      (λ j d other there is_first. absurd (other ((r.each_seat j d there).first is_first ∙ sym (q.first first.0)))))
      (λ some. added_new s r id v e at
      (ap (λ b. cond b ns (cond (has_number ns n) ns (n ∷ ns))) (ne_eqb n 0 some) ∙ not_own r n ns (λ has. yes_no (is_reserved m.number m.is_zero_shared r.account.history e) reserved
      (made_unreserved m.number m.is_zero_shared r.account.history e (q.numbers n has).1)) (has_number ns n) refl) first.0 some reserved)
    where
      not_own : {s : State (Option S) (View E D)} (r : Kept m opening seats s) (n : ℕ) (ns : List ℕ) → (has_number ns n ≡ true → ⊥) → (b : Bool) → has_number ns n ≡ b → cond b ns (n ∷ ns) ≡ n ∷ ns
      not_own r n ns not true is = absurd (not is)
      not_own r n ns not false is = refl
  added_by s r id v e at whole (inr (inr shared)) =
      let n : ℕ = m.number e in
      let ns : List ℕ = v.known.numbers in
      added_old s r id v e at (ap (λ b. cond b ns (cond (has_number ns n) ns (n ∷ ns))) (eq-eqb n 0 shared.0)) (λ some. absurd (some shared.0))
      (λ j d other there is_first. zero_unreserved m.number m.is_zero_shared r.account.history e shared.0 shared.1)

  ended : (id : ℕ) (v : View E D) (t : ℕ) (y : S) (e : E) → v.stage ≡ Served t → v.olds ≡ [] → m.entries y ≡ v.known.front ++ e ∷ [] → MayAdd m.number m.is_zero_shared v.known e
      → ComesFrom m.comes v.opening (m.plain y) → (s : State (Option S) (View E D)) → Kept m opening seats s → get_elem? s.views id ≡ some v
      → Kept m opening seats (stepped s 0 ((get_or s.words 0 0 + 1) % 2 ^ 64) id ((0, Some y) ∷ []) (ended_view m.number e (m.entries y) v) gives)
  ended id v t y e is bare new may comes s r at =
      let a : Account E = r.account in
      let w : View E D = ended_view m.number e (m.entries y) v in
      let served = at_stage m opening seats s r id v (Served t) at is in
      let q = r.each_seat id v at in
      let opened : v.opening ≡ opening = q.knows (ap seats_at is) in
      let longer_by : m.entries y ≡ a.history ++ e ∷ [] = new ∙ ap (λ (f : List E). f ++ e ∷ []) served.whole in
      let count : length (a.history ++ e ∷ []) ≡ length a.history + 1 = length-append a.history (e ∷ []) in
      let some_wait : 0 < a.waiting = omega (arith, served.out.high, served.next) in
      let mine : a.owner (length a.history) ≡ id = ap a.owner (sym served.next) ∙ served.out.owned in
      let slot : s.homes ≡ none ∷ [] = (subst (λ (b : Bool). SlotOk m opening a s.homes s.views b) served.busy r.slot).0 in
      let z : Added s r id v e = added_by s r id v e at served.whole may in
      let a' : Account E = record { history = a.history ++ e ∷ []; waiting = a.waiting - 1; owner = a.owner; holder = z.holder; busy = false } in
      let total : length a.history + a.waiting ≡ length (a.history ++ e ∷ []) + (a.waiting - 1) = omega (arith, some_wait, count) in record {
        account = a';
        asleep = r.asleep;
        words = ap (λ (ws : List ℕ). set ws 0 ((get_or ws 0 0 + 1) % 2 ^ 64)) r.words
            ∙ (λ i. (mod-add-mod (length a.history) (2 ^ 64) 1 ∙ ap (λ (n : ℕ). n % 2 ^ 64) (sym count)) i ∷ total i % 2 ^ 64 ∷ r.asleep ∷ []);
        slot = (y, ap (λ (hs : List _). set hs 0 (some (Some y))) slot, longer_by, subst (λ (o : Option D). ComesFrom m.comes o (m.plain y)) opened comes);
        each_seat = seats_stay (SeatOk m opening a') s.views id w
            record {
              stage = tt;
              known = subst (λ (h : List E). OthersAdded m.number m.is_zero_shared w.known h) longer_by (added_self m.number m.is_zero_shared w.known);
              olds = subst (λ os. EachAdded m.number m.is_zero_shared os (m.entries y)) (sym bare) tt;
              numbers = z.mine;
              first = q.first;
              spare = q.spare;
              knows = λ _. opened;
            }
            (λ j d other there. let o = r.each_seat j d there in let n = z.others j d other there in record {
              stage = stage_stays a z.holder id j e some_wait mine other d.known.front d.stage o.stage;
              known = n.0;
              olds = o.olds;
              numbers = n.1;
              first = o.first;
              spare = o.spare;
              knows = o.knows;
            });
        each_ticket = λ u low high. ticket_stays a s.views u id v w at (not_mine v.stage t u is (omega (arith, low, count, served.next))) (r.each_ticket u (omega (arith, low, count)) (omega (arith, high, total)));
        each_number = z.numbers w refl;
        longest = (id, w, set_here s.views id w (at_get s.views id v at).0, refl, longer_by);
        tickets = omega (arith, total_set tickets_of s.views id v w at, ap tickets_at is, r.tickets);
        seats_are = omega (arith, total_set seats_of s.views id v w at, ap seats_at is, r.seats_are);
      }

  ends : (slots id : ℕ) (v : View E D) (t : ℕ) (y : S) (e : E) → v.stage ≡ Served t → v.olds ≡ [] → m.entries y ≡ v.known.front ++ e ∷ [] → MayAdd m.number m.is_zero_shared v.known e
      → ComesFrom m.comes v.opening (m.plain y) → Allows (Kept m opening seats) slots id (v, (0, Some y) ∷ []) 0 (λ n. (n + 1) % 2 ^ 64) (Ends m (step slots 0 1 0 none) (v, (0, Some y) ∷ []))
  ends slots id v t y e is bare new may comes s r _ at _ = (
    ended_view m.number e (m.entries y) v,
    gives,
    tt,
    ended id v t y e is bare new may comes s r at,
    λ y' e' same new'. let same' : y ≡ y' = ap (first_value y) same in
        let last : e ≡ e' = last_is v.known.front e e' (sym new ∙ (ap m.entries same' ∙ new')) in
        (λ i. ended_view m.number (last i) (m.entries (same' i)) v, refl),
  )

  -- a seat that is served may give back a state with one entry more
  pub ends_at : (slots id : ℕ) (me : Me (Option S) (View E D)) (y : S) (e : E) → is_served me.0.stage ≡ true → me.1 ≡ (0, Some y) ∷ [] → me.0.olds ≡ [] → m.entries y ≡ me.0.known.front ++ e ∷ []
      → MayAdd m.number m.is_zero_shared me.0.known e → ComesFrom m.comes me.0.opening (m.plain y)
      → Allows (Kept m opening seats) slots id me 0 (λ n. (n + 1) % 2 ^ 64) (Ends m (step slots 0 1 0 none) me)
  ends_at slots id me y e is got bare new may comes = let t = served_at me.0.stage is in
      subst (λ (z : List (ℕ × Option S)). Allows (Kept m opening seats) slots id (me.0, z) 0 (λ n. (n + 1) % 2 ^ 64) (Ends m (step slots 0 1 0 none) (me.0, z))) (sym got) (ends slots id me.0 t.0 y e t.1 bare new may comes)
