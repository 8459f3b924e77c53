-- The lock's rule: what holds of its words, its slot and all views between any two steps.
use Rattle.std.specs.Prelude.{◌≡◌, ◌⊎◌, ℕ, ◌+◌, ◌-◌, ◌%◌, ◌^◌, ◌<◌, ◌≤◌, List, [], ◌∷◌, length, Bool, true, false, Option, Some}
use mathlib.Core.Option.{some, none}
use mathlib.Core.Option as maybe
use lib.ListN.{get_elem?}
use Rattle.std.specs.List.{sum_by}
use Rattle.atomic_table.specs.Table.{State}
use Rattle.turn_lock.specs.declared.view.View.{View}
use Rattle.turn_lock.specs.declared.view.Stage.{Stage}
use Rattle.turn_lock.specs.declared.view.Stage.TheVariants.{Idle, Waiting, Served, Spent}
use Rattle.turn_lock.specs.History.{IsMade, OthersAdded, has_number}
use Rattle.turn_lock.specs.Meaning.{Meaning, ComesFrom}
use Rattle.turn_lock.specs.Steps.{EachAdded}

-- the tickets that are out with a seat
abbrev pub tickets_at : Stage → ℕ
tickets_at Idle = 0
tickets_at (Waiting ticket) = 1
tickets_at (Served ticket) = 1
tickets_at Spent = 0

-- 1 where the seat isn't spent
abbrev pub seats_at : Stage → ℕ
seats_at Idle = 1
seats_at (Waiting ticket) = 1
seats_at (Served ticket) = 1
seats_at Spent = 0

module _ {E D : Type 0} where
  abbrev pub tickets_of : View E D → ℕ
  tickets_of v = tickets_at v.stage

  -- a seat counts with those that it may split off
  abbrev pub seats_of : View E D → ℕ
  seats_of v = seats_at v.stage + v.spare

  -- the view of the first seat
  abbrev pub first_view : Option D → ℕ → View E D
  first_view opening seats = record { known = record { front = []; numbers = []; first = true }; stage = Idle; spare = seats - 1; olds = []; opening = opening; own = [] }

-- what the rule speaks of beside words, slot and views: the history, how many tickets are out, the seat of each ticket and of each number, and whether a seat is served
pub record Account (E : Type 0) : Type 0 where
  pub history : List E
  pub waiting : ℕ
  pub owner : ℕ → ℕ
  pub holder : ℕ → ℕ
  pub busy : Bool

module _ {E : Type 0} (a : Account E) where
  -- the ticket is out, with this seat
  pub record IsOut (seat ticket : ℕ) : Type 0 where
    pub low : length a.history ≤ ticket
    pub high : ticket < length a.history + a.waiting
    pub owned : a.owner ticket ≡ seat

  -- a seat that is served has seen the whole history
  pub record IsServed (seat : ℕ) (front : List E) (ticket : ℕ) : Type 0 where
    pub out : IsOut seat ticket
    pub next : ticket ≡ length a.history
    pub whole : front ≡ a.history
    pub busy : a.busy ≡ true

  abbrev pub StageOk : ℕ → List E → Stage → Type 0
  StageOk seat front Idle = Unit {0}
  StageOk seat front (Waiting ticket) = IsOut seat ticket
  StageOk seat front (Served ticket) = IsServed seat front ticket
  StageOk seat front Spent = Unit {0}

module _ {E D : Type 0} (a : Account E) (views : List (View E D)) where
  -- the ticket is out with a seat that waits with it, or is served
  abbrev pub TicketOk : ℕ → Type 0
  TicketOk ticket = (v : View E D) × (get_elem? views (a.owner ticket) ≡ some v) × ((v.stage ≡ Waiting ticket) ⊎ (v.stage ≡ Served ticket))

  -- the number is with a seat
  abbrev pub NumberOk : ℕ → Type 0
  NumberOk n = (v : View E D) × (get_elem? views (a.holder n) ≡ some v) × (has_number v.known.numbers n ≡ true)

  -- a seat that isn't spent has seen the whole history
  abbrev pub LongestOk : Type 0
  LongestOk = (j : ℕ) × (v : View E D) × (get_elem? views j ≡ some v) × (seats_at v.stage ≡ 1) × (v.known.front ≡ a.history)

module _ {S E D : Type 0} (m : Meaning S E D) (opening : Option D) where
  -- what holds of each seat: its front begins the history, in which all its own entries stand; each of its numbers is made, and no other's; the first seat alone splits others off; it knows the plain data of the start
  pub record SeatOk (a : Account E) (seat : ℕ) (v : View E D) : Type 0 where
    pub stage : StageOk a seat v.known.front v.stage
    pub known : OthersAdded m.number m.is_zero_shared v.known a.history
    pub olds : EachAdded m.number m.is_zero_shared v.olds v.known.front
    pub numbers : (n : ℕ) → has_number v.known.numbers n ≡ true → (a.holder n ≡ seat) × IsMade m.number a.history n
    pub first : v.known.first ≡ true → seat ≡ 0
    pub spare : v.known.first ≡ false → v.spare ≡ 0
    pub knows : seats_at v.stage ≡ 1 → v.opening ≡ opening

  -- while a seat is served the slot is out with it; else the slot is at home with a state that stands for the history, and comes from that of the start
  abbrev pub SlotOk : Account E → List (maybe.Option (Option S)) → List (View E D) → Bool → Type 0
  SlotOk a homes views true = (homes ≡ none ∷ []) × ((v : View E D) × (get_elem? views (a.owner (length a.history)) ≡ some v) × (v.stage ≡ Served (length a.history)))
  SlotOk a homes views false = (x : S) × (homes ≡ some (Some x) ∷ []) × (m.entries x ≡ a.history) × ComesFrom m.comes opening (m.plain x)

  -- the rule. Word 0 is the length of the history, and the tickets out are those from there up to word 1, each with one seat; both words are read modulo 2^64. Word 2 may be anything
  pub record Kept (seats : ℕ) (s : State (Option S) (View E D)) : Type 0 where
    pub account : Account E
    pub asleep : ℕ
    pub words : s.words ≡ length account.history % 2 ^ 64 ∷ (length account.history + account.waiting) % 2 ^ 64 ∷ asleep ∷ []
    pub slot : SlotOk account s.homes s.views account.busy
    pub each_seat : (j : ℕ) (v : View E D) → get_elem? s.views j ≡ some v → SeatOk account j v
    pub each_ticket : (t : ℕ) → length account.history ≤ t → t < length account.history + account.waiting → TicketOk account s.views t
    pub each_number : (n : ℕ) → IsMade m.number account.history n → NumberOk account s.views n
    pub longest : LongestOk account s.views
    pub tickets : sum_by tickets_of s.views ≡ account.waiting
    pub seats_are : sum_by seats_of s.views ≡ seats
