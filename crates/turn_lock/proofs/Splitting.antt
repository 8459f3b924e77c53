-- A caller is split off.
use Rattle.std.proofs.Common.{◌≡◌, ◌≢◌, ℕ, ◌<◌, Bool, true, false, List, [], ◌∷◌, ◌++◌, length, set, refl, ap, sym, subst, ◌∙◌, ⊎_elim, arith, Option, length-set}
use mathlib.Core.Logic.{dite}
use mathlib.Core.Option.{some}
use native.Mathlib.Decide.{ℕ_discrete}
use lib.ListN.{get_elem?}
use Rattle.std.proofs.lemmas.List.Sums.{sum_by_push}
use Rattle.atomic_table.specs.Table.{State, Splits}
use Rattle.atomic_table.proofs.Lists.{set_here, set_else, at_longer}
use Rattle.turn_lock.specs.declared.view.View.{View}
use Rattle.turn_lock.specs.declared.view.Stage.TheVariants.{Idle, Waiting, Served, Spent}
use Rattle.turn_lock.specs.History.{has_number, IsMade, OthersAdded}
use Rattle.turn_lock.specs.Meaning.{Meaning}
use Rattle.turn_lock.specs.Steps.{kept_view, new_view}
use Rattle.turn_lock.specs.Rule.{tickets_at, seats_at, tickets_of, seats_of, Account, StageOk, SeatOk, SlotOk, Kept}
use Rattle.turn_lock.proofs.Numbers.{yes_no, put, put_here, put_else, without_has, has_without, among_has, has_among}
use Rattle.turn_lock.proofs.Prefixes.{at_get, at_end, end_at, total_set}
use Rattle.turn_lock.proofs.Frame.{idle_unserved, idle_ticketless, seats_stay, same_view, ticket_stays, longest_stays, slot_stays}

module _ {S E D : Type 0} (m : Meaning S E D) (opening : Option D) (seats : ℕ) where
  -- where each number is, once n went from the seat id to the new one
  record Given (s : State (Option S) (View E D)) (r : Kept m opening seats s) (n id : ℕ) (v : View E D) : Type 0 where
    holder : ℕ → ℕ
    kept : (k : ℕ) → has_number (kept_view n v).known.numbers k ≡ true → (holder k ≡ id) × IsMade m.number r.account.history k
    new : (k : ℕ) → has_number (new_view n v).known.numbers k ≡ true → (holder k ≡ length s.views) × IsMade m.number r.account.history k
    others : (j : ℕ) (d : View E D) → j ≢ id → get_elem? s.views j ≡ some d → (k : ℕ) → has_number d.known.numbers k ≡ true → (holder k ≡ j) × IsMade m.number r.account.history k
    numbers : (k : ℕ) → IsMade m.number r.account.history k
        → (u : View E D) × (get_elem? (set s.views id (kept_view n v) ++ new_view n v ∷ []) (holder k) ≡ some u) × (has_number u.known.numbers k ≡ true)

  -- a number that isn't given away is where it was
  stays : (s : State (Option S) (View E D)) (r : Kept m opening seats s) (n id : ℕ) (v : View E D) → get_elem? s.views id ≡ some v → (k : ℕ) → k ≢ n → IsMade m.number r.account.history k
      → (u : View E D) × (get_elem? (set s.views id (kept_view n v) ++ new_view n v ∷ []) (r.account.holder k) ≡ some u) × (has_number u.known.numbers k ≡ true)
  stays s r n id v at k not made =
      let w : View E D = kept_view n v in
      let vs : List (View E D) = set s.views id w in
      let q = r.each_number k made in
      dite (ℕ_discrete (r.account.holder k) id)
      (λ same. let has : has_number v.known.numbers k ≡ true = subst (λ (z : View E D). has_number z.known.numbers k ≡ true) (sym (same_view s.views id (r.account.holder k) v q.0 at q.1 same)) q.2 in (
        w,
        ap (get_elem? (vs ++ new_view n v ∷ [])) same ∙ at_longer vs (new_view n v ∷ []) id w (set_here s.views id w (at_get s.views id v at).0),
        has_without n k v.known.numbers not has,
      ))
      (λ other. (q.0, at_longer vs (new_view n v ∷ []) (r.account.holder k) q.0 (set_else s.views id (r.account.holder k) w other ∙ q.1), q.2))

  given : (s : State (Option S) (View E D)) (r : Kept m opening seats s) (n id : ℕ) (v : View E D) → get_elem? s.views id ≡ some v → (b : Bool) → has_number v.known.numbers n ≡ b → Given s r n id v
  given s r n id v at true is =
      let f : ℕ → ℕ = r.account.holder in
      let new_id : ℕ = length s.views in
      let vs : List (View E D) = set s.views id (kept_view n v) in
      let q = (r.each_seat id v at).numbers in record {
        holder = put f n new_id;
        kept = λ k has. let z = without_has n k v.known.numbers has in let o = q k z.0 in (put_else f n new_id k z.1 ∙ o.0, o.1);
        new = λ k has. let z = among_has n k v.known.numbers has in let o = q n z.1 in
            (ap (put f n new_id) z.0 ∙ put_here f n new_id, subst (λ x. IsMade m.number r.account.history x) (sym z.0) o.1);
        others = λ j d other there k has. let o = (r.each_seat j d there).numbers k has in
            (put_else f n new_id k (λ e. other (sym o.0 ∙ (ap f e ∙ (q n is).0))) ∙ o.0, o.1);
        numbers = λ k made. dite (ℕ_discrete k n)
            (λ e. (
              new_view n v,
              ap (get_elem? (vs ++ new_view n v ∷ [])) ((ap (put f n new_id) e ∙ put_here f n new_id) ∙ sym (length-set s.views id (kept_view n v))) ∙ end_at vs (new_view n v),
              subst (λ x. has_number (new_view n v).known.numbers x ≡ true) (sym e) (has_among n v.known.numbers is),
            ))
            (λ not. let o = stays s r n id v at k not made in (o.0, ap (get_elem? (vs ++ new_view n v ∷ [])) (put_else f n new_id k not) ∙ o.1, o.2));
      }
  given s r n id v at false is =
      let f : ℕ → ℕ = r.account.holder in
      let vs : List (View E D) = set s.views id (kept_view n v) in
      let q = (r.each_seat id v at).numbers in record {
        holder = f;
        kept = λ k has. q k (without_has n k v.known.numbers has).0;
        new = λ k has. absurd (yes_no (has_number v.known.numbers n) (among_has n k v.known.numbers has).1 is);
        others = λ j d other there k has. (r.each_seat j d there).numbers k has;
        numbers = λ k made. dite (ℕ_discrete k n)
            (λ e. let o = r.each_number k made in
            let other : f k ≢ id = λ same. yes_no (has_number v.known.numbers n)
            (subst (λ x. has_number v.known.numbers x ≡ true) e (subst (λ (z : View E D). has_number z.known.numbers k ≡ true) (sym (same_view s.views id (f k) v o.0 at o.1 same)) o.2)) is in
            (o.0, at_longer vs (new_view n v ∷ []) (f k) o.0 (set_else s.views id (f k) (kept_view n v) other ∙ o.1), o.2))
            (λ not. stays s r n id v at k not made);
      }

  slot_longer : (a : Account E) (homes : _) (vs : List (View E D)) (u : View E D) (b : Bool) → SlotOk m opening a homes vs b → SlotOk m opening a homes (vs ++ u ∷ []) b
  slot_longer a homes vs u true q = (q.0, (q.1.0, at_longer vs (u ∷ []) (a.owner (length a.history)) q.1.0 q.1.1, q.1.2))
  slot_longer a homes vs u false q = q

  -- the first seat may split another off
  pub splits : (n id : ℕ) (v : View E D) → v.stage ≡ Idle → v.known.first ≡ true → 0 < v.spare → Splits (Kept m opening seats) id v (kept_view n v) (new_view n v)
  splits n id v idle first some_left s r at =
      let a : Account E = r.account in
      let c : Given s r n id v = given s r n id v at (has_number v.known.numbers n) refl in
      let a' : Account E = record a { holder = c.holder } in
      let w : View E D = kept_view n v in
      let u : View E D = new_view n v in
      let vs : List (View E D) = set s.views id w in
      let q = r.each_seat id v at in
      let unserved = idle_unserved v.stage idle in
      let longer_vs : (k : ℕ) (d : View E D) → get_elem? vs k ≡ some d → get_elem? (vs ++ u ∷ []) k ≡ some d = λ k d e. at_longer vs (u ∷ []) k d e in
      let at_idle : StageOk a' id v.known.front v.stage = subst (λ z. StageOk a' id v.known.front z) (sym idle) tt in
      let kept_known : OthersAdded m.number m.is_zero_shared w.known a.history =
      record { begins = q.known.begins; own = λ k has. q.known.own k (without_has n k v.known.numbers has).0; first = q.known.first } in
      let new_known : OthersAdded m.number m.is_zero_shared u.known a.history = record {
        begins = q.known.begins;
        own = λ k has. let z = among_has n k v.known.numbers has in q.known.own k (subst (λ x. has_number v.known.numbers x ≡ true) (sym z.0) z.1);
        first = λ no_first. absurd (let x : false ≡ true = no_first in cc);
      } in record {
        account = a';
        asleep = r.asleep;
        words = r.words;
        slot = slot_longer a' s.homes vs u a.busy (slot_stays m opening seats a a.waiting a.owner c.holder s.homes s.views a.busy id v w at unserved (λ _. refl) r.slot);
        each_seat = λ j d e. ⊎_elim
            (λ (t : get_elem? vs j ≡ some d). seats_stay (SeatOk m opening a') s.views id w
            record { stage = at_idle; known = kept_known; olds = q.olds; numbers = c.kept; first = q.first; spare = λ no_first. absurd (yes_no v.known.first first no_first); knows = q.knows }
            (λ i o other there. let p = r.each_seat i o there in
            record { stage = moved_stage a c.holder i o.known.front o.stage p.stage; known = p.known; olds = p.olds; numbers = c.others i o other there; first = p.first; spare = p.spare; knows = p.knows }) j d t)
            (λ (t : (j ≡ length vs) × (u ≡ d)). subst (λ (z : ℕ × View E D). SeatOk m opening a' z.0 z.1) (λ i. (sym (t.0 ∙ length-set s.views id w) i, t.1 i)) record {
              stage = tt;
              known = new_known;
              olds = tt;
              numbers = c.new;
              first = λ no_first. absurd (let x : false ≡ true = no_first in cc);
              spare = λ _. refl;
              knows = λ _. q.knows (ap seats_at idle);
            }) (at_end vs u d j e);
        each_ticket = λ k low high. let t = ticket_stays a s.views k id v w at (idle_ticketless v.stage idle k) (r.each_ticket k low high) in (t.0, longer_vs (a.owner k) t.0 t.1, t.2);
        each_number = c.numbers;
        longest = let l = longest_stays a s.views id v w at (ap seats_at idle) (λ e. e) r.longest in (l.0, l.1, longer_vs l.0 l.1 l.2, l.3, l.4);
        tickets = omega (arith, sum_by_push tickets_of vs u, total_set tickets_of s.views id v w at, ap tickets_at idle, r.tickets);
        seats_are = omega (arith, sum_by_push seats_of vs u, total_set seats_of s.views id v w at, ap seats_at idle, r.seats_are, some_left);
      }
    where
      moved_stage : (a : Account E) (f : ℕ → ℕ) (j : ℕ) (front : List E) (z : _) → StageOk a j front z → StageOk (record a { holder = f }) j front z
      moved_stage a f j front Idle q = tt
      moved_stage a f j front (Waiting t) q = record { low = q.low; high = q.high; owned = q.owned }
      moved_stage a f j front (Served t) q = record { out = record { low = q.out.low; high = q.out.high; owned = q.out.owned }; next = q.next; whole = q.whole; busy = q.busy }
      moved_stage a f j front Spent q = tt
