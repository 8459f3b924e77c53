-- What stays of the rule where one view changes, and what a seat knows by it.
use Rattle.std.proofs.Common.{◌≡◌, ◌≢◌, ◌⊎◌, ℕ, ◌%◌, ◌^◌, ◌<◌, ◌≤◌, Bool, true, false, List, [], ◌∷◌, length, get_or, set, refl, ap, sym, subst, ◌∙◌, ⊎_elim, arith, Option, Some}
use mathlib.Core.Logic.{dite}
use mathlib.Core.Option.{some, some-injective}
use native.Mathlib.Decide.{ℕ_discrete}
use lib.ListN.{get_elem?}
use Rattle.std.proofs.lemmas.List.Sums.{sum_by-le-sum_by}
use Rattle.atomic_table.specs.Table.{State}
use Rattle.atomic_table.proofs.Lists.{at_set, set_here, set_else, one_turn}
use Rattle.turn_lock.specs.declared.view.View.{View}
use Rattle.turn_lock.specs.declared.view.Stage.{Stage}
use Rattle.turn_lock.specs.declared.view.Stage.TheVariants.{Idle, Waiting, Served, Spent}
use Rattle.turn_lock.specs.History.{has_number}
use Rattle.turn_lock.specs.Meaning.{Meaning, ComesFrom}
use Rattle.turn_lock.specs.Rule.{tickets_at, seats_at, tickets_of, seats_of, Account, StageOk, TicketOk, NumberOk, LongestOk, SeatOk, SlotOk, Kept}
use Rattle.turn_lock.proofs.Prefixes.{at_get}

-- of an idle seat no ticket is out
pub idle_unserved : (z : Stage) → z ≡ Idle → (t : ℕ) → z ≡ Served t → ⊥
idle_unserved z idle t e = let x : Idle ≡ Served t = sym idle ∙ e in cc

pub idle_ticketless : (z : Stage) → z ≡ Idle → (t : ℕ) → (z ≡ Waiting t) ⊎ (z ≡ Served t) → ⊥
idle_ticketless z idle t e = ⊎_elim (λ (p : z ≡ Waiting t). let x : Idle ≡ Waiting t = sym idle ∙ p in cc) (idle_unserved z idle t) e

ticket-le-seat : (z : Stage) → tickets_at z ≤ seats_at z
ticket-le-seat Idle = omega arith
ticket-le-seat (Waiting t) = omega arith
ticket-le-seat (Served t) = omega arith
ticket-le-seat Spent = omega arith

module _ {A : Type 0} where
  -- a fact of each seat: of the one that changes, and of the others
  pub seats_stay : (K : ℕ → A → Type 0) (vs : List A) (id : ℕ) (w : A) → K id w → ((j : ℕ) (d : A) → j ≢ id → get_elem? vs j ≡ some d → K j d)
      → (j : ℕ) (d : A) → get_elem? (set vs id w) j ≡ some d → K j d
  seats_stay K vs id w mine others j d e = ⊎_elim (λ (t : (j ≡ id) × (w ≡ d)). subst (λ (x : ℕ × A). K x.0 x.1) (λ i. (sym t.0 i, t.1 i)) mine)
      (λ (t : (j ≢ id) × (get_elem? vs j ≡ some d)). others j d t.0 t.1) (at_set vs id j w d e)

  -- the view that stands at a place
  pub same_view : (vs : List A) (i j : ℕ) (v u : A) → get_elem? vs i ≡ some v → get_elem? vs j ≡ some u → j ≡ i → v ≡ u
  same_view vs i j v u at there e = some-injective v u (sym at ∙ (ap (get_elem? vs) (sym e) ∙ there))

module _ {E D : Type 0} where
  pub ticket_stays : (a : Account E) (vs : List (View E D)) (t id : ℕ) (v w : View E D) → get_elem? vs id ≡ some v → ((v.stage ≡ Waiting t) ⊎ (v.stage ≡ Served t) → ⊥)
      → TicketOk a vs t → TicketOk a (set vs id w) t
  ticket_stays a vs t id v w at not q =
      let other : a.owner t ≢ id = λ e. not (subst (λ (z : View E D). (z.stage ≡ Waiting t) ⊎ (z.stage ≡ Served t)) (sym (same_view vs id (a.owner t) v q.0 at q.1 e)) q.2) in
      (q.0, set_else vs id (a.owner t) w other ∙ q.1, q.2)

  pub number_stays : (a : Account E) (vs : List (View E D)) (n id : ℕ) (v w : View E D) → get_elem? vs id ≡ some v → (has_number v.known.numbers n ≡ true → has_number w.known.numbers n ≡ true)
      → NumberOk a vs n → NumberOk a (set vs id w) n
  number_stays a vs n id v w at keeps q = dite (ℕ_discrete (a.holder n) id)
      (λ same. (
        w,
        ap (get_elem? (set vs id w)) same ∙ set_here vs id w (at_get vs id v at).0,
        keeps (subst (λ (z : View E D). has_number z.known.numbers n ≡ true) (sym (same_view vs id (a.holder n) v q.0 at q.1 same)) q.2),
      ))
      (λ other. (q.0, set_else vs id (a.holder n) w other ∙ q.1, q.2))

  pub longest_stays : (a : Account E) (vs : List (View E D)) (id : ℕ) (v w : View E D) → get_elem? vs id ≡ some v → seats_at w.stage ≡ 1 → (v.known.front ≡ a.history → w.known.front ≡ a.history)
      → LongestOk a vs → LongestOk a (set vs id w)
  longest_stays a vs id v w at present keeps q = dite (ℕ_discrete q.0 id)
      (λ same. (id, w, set_here vs id w (at_get vs id v at).0, present, keeps (ap (λ (z : View E D). z.known.front) (same_view vs id q.0 v q.1 at q.2 same) ∙ q.4)))
      (λ other. (q.0, q.1, set_else vs id q.0 w other ∙ q.2, q.3, q.4))

module _ {S E D : Type 0} (m : Meaning S E D) (opening : Option D) (seats : ℕ) where
  abbrev St : Type 0
  St = State (Option S) (View E D)

  abbrev Rule : St → Type 0
  Rule = Kept m opening seats

  -- a seat at another stage, where tickets and seats changed but the history didn't
  pub restaged : (a : Account E) (k : ℕ) (o : ℕ → ℕ) (b : Bool) (j : ℕ) (v : View E D) (z : Stage) → SeatOk m opening a j v → seats_at v.stage ≡ 1
      → StageOk (record a { waiting = k; owner = o; busy = b }) j v.known.front z → SeatOk m opening (record a { waiting = k; owner = o; busy = b }) j (record v { stage = z })
  restaged a k o b j v z q present ok = record { stage = ok; known = q.known; olds = q.olds; numbers = q.numbers; first = q.first; spare = q.spare; knows = λ _. q.knows present }

  pub moved : (a : Account E) (k : ℕ) (o : ℕ → ℕ) (b : Bool) (j : ℕ) (v : View E D) → SeatOk m opening a j v
      → StageOk (record a { waiting = k; owner = o; busy = b }) j v.known.front v.stage → SeatOk m opening (record a { waiting = k; owner = o; busy = b }) j v
  moved a k o b j v q ok = record { stage = ok; known = q.known; olds = q.olds; numbers = q.numbers; first = q.first; spare = q.spare; knows = q.knows }

  -- where the seat that changes isn't served, the slot's fact stays
  pub slot_stays : (a : Account E) (k : ℕ) (o f : ℕ → ℕ) (homes : _) (vs : List (View E D)) (b : Bool) (id : ℕ) (v w : View E D) → get_elem? vs id ≡ some v → ((t : ℕ) → v.stage ≡ Served t → ⊥)
      → (b ≡ true → o (length a.history) ≡ a.owner (length a.history)) → SlotOk m opening a homes vs b → SlotOk m opening (record a { waiting = k; owner = o; holder = f }) homes (set vs id w) b
  slot_stays a k o f homes vs true id v w at not same q =
      let other : a.owner (length a.history) ≢ id = λ e. not (length a.history) (ap (λ (z : View E D). z.stage) (same_view vs id (a.owner (length a.history)) v q.1.0 at q.1.1 e) ∙ q.1.2) in
      (q.0, (q.1.0, ap (get_elem? (set vs id w)) (same refl) ∙ (set_else vs id (a.owner (length a.history)) w other ∙ q.1.1), q.1.2))
  slot_stays a k o f homes vs false id v w at not same q = q

  -- what the rule says of a seat at its stage
  pub at_stage : (s : St) (r : Rule s) (id : ℕ) (v : View E D) (z : Stage) → get_elem? s.views id ≡ some v → v.stage ≡ z → StageOk r.account id v.known.front z
  at_stage s r id v z at is = subst (λ (y : Stage). StageOk r.account id v.known.front y) is (r.each_seat id v at).stage

  -- fewer tickets are out than there are seats
  pub few_out : (s : St) (r : Rule s) → r.account.waiting ≤ seats
  few_out s r = omega (arith, r.tickets, r.seats_are, sum_by-le-sum_by tickets_of seats_of s.views (λ (v : View E D). let h = ticket-le-seat v.stage in omega arith))

  -- the seat that is served
  pub serving : (s : St) (r : Rule s) → r.account.busy ≡ true
      → (v : View E D) × (get_elem? s.views (r.account.owner (length r.account.history)) ≡ some v) × (v.stage ≡ Served (length r.account.history))
  serving s r e = (subst (λ (b : Bool). SlotOk m opening r.account s.homes s.views b) e r.slot).1

  pub busy_waits : (s : St) (r : Rule s) → r.account.busy ≡ true → 0 < r.account.waiting
  busy_waits s r e = let q = serving s r e in
      let known = at_stage s r (r.account.owner (length r.account.history)) q.0 (Served (length r.account.history)) q.1 q.2 in omega (arith, known.out.high)

  -- the state at home, while nobody is served
  pub at_home : (s : St) (r : Rule s) → r.account.busy ≡ false
      → (x : S) × (s.homes ≡ some (Some x) ∷ []) × (m.entries x ≡ r.account.history) × ComesFrom m.comes opening (m.plain x)
  at_home s r e = subst (λ (b : Bool). SlotOk m opening r.account s.homes s.views b) e r.slot

  -- a ticket is the next one where the words agree
  pub my_turn : seats < 2 ^ 32 → (s : St) (r : Rule s) (id : ℕ) (v : View E D) (t : ℕ) → get_elem? s.views id ≡ some v → v.stage ≡ Waiting t → get_or s.words 0 0 ≡ t % 2 ^ 64 → length r.account.history ≡ t
  my_turn few s r id v t at is found =
      let known = at_stage s r id v (Waiting t) at is in
      let few_are = few_out s r in
      one_turn (length r.account.history) t (2 ^ 64) known.low (omega (arith, known.high, few)) (sym (ap (λ (ws : List ℕ). get_or ws 0 0) r.words) ∙ found)

  -- nobody is served where the next ticket is out with a seat that waits
  pub not_busy : (s : St) (r : Rule s) (id : ℕ) (v : View E D) (t : ℕ) → get_elem? s.views id ≡ some v → v.stage ≡ Waiting t → length r.account.history ≡ t → (b : Bool) → r.account.busy ≡ b → r.account.busy ≡ false
  not_busy s r id v t at is turn false e = e
  not_busy s r id v t at is turn true e =
      let q = serving s r e in
      let known = at_stage s r id v (Waiting t) at is in
      let same : v ≡ q.0 = same_view s.views id (r.account.owner (length r.account.history)) v q.0 at q.1 (ap r.account.owner turn ∙ known.owned) in
      let bad : Waiting t ≡ Served (length r.account.history) = sym is ∙ (ap (λ (z : View E D). z.stage) same ∙ q.2) in cc
