-- What each kind of step makes of a caller's view, and what it tells the caller.
use Rattle.std.specs.Prelude.{◌≡◌, ℕ, ◌+◌, ◌-◌, ◌%◌, ◌^◌, ◌<◌, ◌==◌, Bool, true, false, List, [], ◌∷◌, ◌++◌, Option, Some, None, MatchBool}
use Rattle.atomic_table.specs.Table.{Me, Step}
use Rattle.turn_lock.specs.declared.view.Known.{Known}
use Rattle.turn_lock.specs.declared.view.View.{View}
use Rattle.turn_lock.specs.declared.view.Stage.{Stage}
use Rattle.turn_lock.specs.declared.view.Stage.TheVariants.{Idle, Waiting, Served, Spent}
use Rattle.turn_lock.specs.History.{known_after, OthersAdded}
use Rattle.turn_lock.specs.Meaning.{Meaning, ComesFrom}
use Rattle.turn_lock.specs.Callers.{kept_numbers, given_numbers, met_known}

abbrev pub is_served : Stage → Bool
is_served Idle = false
is_served (Waiting ticket) = false
is_served (Served ticket) = true
is_served Spent = false

module _ {E D : Type 0} where
  -- the caller has the ticket
  abbrev pub waiting_view : ℕ → View E D → View E D
  waiting_view ticket v = record v { stage = Waiting ticket }

  -- the ticket is served, and the caller has seen the whole history
  abbrev pub served_view : ℕ → List E → View E D → View E D
  served_view ticket history v = record v { known = record v.known { front = history }; stage = Served ticket }

  -- the turn is over, with this entry at the end of the history
  abbrev pub ended_view : (E → ℕ) → E → List E → View E D → View E D
  ended_view number e history v = record v { known = known_after number e history v.known; stage = Idle; own = v.own ++ e ∷ [] }

  abbrev pub kept_view : ℕ → View E D → View E D
  kept_view n v = record v { known = kept_numbers n v.known; spare = v.spare - 1 }

  abbrev pub new_view : ℕ → View E D → View E D
  new_view n v = record v { known = given_numbers n v.known; stage = Idle; spare = 0; olds = []; own = [] }

  abbrev pub met_view : View E D → View E D → View E D
  met_view v other = record v { known = met_known v.known other.known; spare = v.spare + 1; olds = v.known ∷ other.known ∷ []; own = v.own ++ other.own }

  abbrev pub spent_view : View E D
  spent_view = record { known = record { front = []; numbers = []; first = false }; stage = Spent; spare = 0; olds = []; opening = None; own = [] }

-- of each of these the front has what it saw, and then entries of others
abbrev pub EachAdded : {E : Type 0} → (E → ℕ) → Bool → List (Known E) → List E → Type 0
EachAdded number shared [] front = Unit {0}
EachAdded number shared (old ∷ olds) front = OthersAdded number shared old front × EachAdded number shared olds front

module _ {S E D : Type 0} where
  -- the caller waits with a ticket of this number
  abbrev pub HasTicket : Me (Option S) (View E D) → ℕ → Me (Option S) (View E D) → Type 0
  HasTicket me found me' = (me'.1 ≡ me.1) × ((ticket : ℕ) × (ticket % 2 ^ 64 ≡ found) × (me'.0 ≡ waiting_view ticket me.0))

  abbrev pub Draws : Step (Option S) → Me (Option S) (View E D) → ℕ → Me (Option S) (View E D) → Type 0
  Draws _ me found me' = HasTicket me found me'

  -- the ticket is drawn where it has the number that was looked for; else nothing changes
  abbrev pub DrawsThis : Step (Option S) → Me (Option S) (View E D) → ℕ → Me (Option S) (View E D) → Type 0
  DrawsThis s me found me' = MatchBool (found == s.first) (HasTicket me found me') (me' ≡ me)

  -- nothing changes that the rule speaks of
  abbrev pub Notes : Step (Option S) → Me (Option S) (View E D) → ℕ → Me (Option S) (View E D) → Type 0
  Notes _ me found me' = me' ≡ me

  module _ (m : Meaning S E D) where
    -- the caller takes the state, which stands for all of the history
    pub record Takes (v : View E D) (ticket : ℕ) (me' : Me (Option S) (View E D)) : Type 0 where
      pub state : S
      pub view : me'.0 ≡ served_view ticket (m.entries state) v
      pub slot : me'.1 ≡ (0, Some state) ∷ []
      pub added : OthersAdded m.number m.is_zero_shared v.known (m.entries state)
      pub comes : ComesFrom m.comes v.opening (m.plain state)

    abbrev pub SeesServed : Step (Option S) → Me (Option S) (View E D) → ℕ → Me (Option S) (View E D) → Type 0
    SeesServed _ me found me' = (ticket : ℕ) → me.0.stage ≡ Waiting ticket → MatchBool (found == ticket % 2 ^ 64) (Takes me.0 ticket me') (me' ≡ me)

    abbrev pub Ends : Step (Option S) → Me (Option S) (View E D) → ℕ → Me (Option S) (View E D) → Type 0
    Ends _ me found me' = (state : S) (e : E) → me.1 ≡ (0, Some state) ∷ [] → m.entries state ≡ me.0.known.front ++ e ∷ []
        → (me'.0 ≡ ended_view m.number e (m.entries state) me.0) × (me'.1 ≡ [])

    -- the front has what each of the two had seen, and then entries of others
    abbrev pub Compares : Step (Option S) → Me (Option S) (View E D) → ℕ → Me (Option S) (View E D) → Type 0
    Compares _ me found me' = (me' ≡ (record me.0 { olds = [] }, me.1)) × EachAdded m.number m.is_zero_shared me.0.olds me.0.known.front × (me.0.spare < 2 ^ 32)
