-- What is known of totals while places are asked in turn. Totals are known by the numbers of the nodes.
use Rattle.std.specs.Prelude.{◌≡◌, ◌⊎◌, ◌≤◌, ◌<◌, ◌+◌, ℕ, List, [], ◌∷◌, ◌++◌, length, get_or, set, Option, Some, None, slice_get}
use Rattle.std.specs.List.{Contains}
use Rattle.std.specs.BTreeMap.{BTreeMap}
use Rattle.rdf_model.specs.declared.term.Term.{Term}
use Rattle.reference_totals.specs.declared.place.WeightedPlace.{WeightedPlace}
use Rattle.reference_totals.specs.declared.numbers.NumberedPlace.{NumberedPlace}
use Rattle.reference_totals.specs.Totals.{HasTotal, SumBy, capped, entry}
use Rattle.reference_totals.specs.Numbers.{AreNumbered}

-- the total that is known at the number, if there is a number
abbrev pub total_in : List (Option ℕ) → Option ℕ → Option ℕ
total_in known None = None
total_in known (Some i) = get_or known i None

-- the total that is known of the node
abbrev pub total_known : BTreeMap Term ℕ → List (Option ℕ) → Term → Option ℕ
total_known numbers known n = total_in known (entry numbers n)

-- a total is known at the number
abbrev pub IsKnown : List (Option ℕ) → ℕ → Type 0
IsKnown known i = (v : ℕ) × (get_or known i None ≡ Some v)

abbrev pub NoneIsKnown : List (Option ℕ) → Type 0
NoneIsKnown known = (i : ℕ) → get_or known i None ≡ None

-- there is room for the totals of all the places
abbrev pub AreWithin : List NumberedPlace → List (Option ℕ) → Type 0
AreWithin places known = (q : NumberedPlace) → Contains places q → q.node < length known

-- what is known of a node is its total, as far as it is counted
abbrev pub AreSound : List WeightedPlace → ℕ → BTreeMap Term ℕ → List (Option ℕ) → Type 0
AreSound places most numbers known = (n : Term) (v : ℕ) → total_known numbers known n ≡ Some v → (k : ℕ) × HasTotal places n k × (v ≡ capped most k)

-- the totals of all nodes to which the place refers are known, and show this number for it
abbrev pub Shows : ℕ → List (Option ℕ) → NumberedPlace → ℕ → Type 0
Shows most known q v = (sum : ℕ) × SumBy (λ j a. total_in known j ≡ Some a) q.to sum × (v ≡ capped most (q.own + sum))

-- that of one of those isn't known
abbrev pub LacksOne : List (Option ℕ) → NumberedPlace → Type 0
LacksOne known q = (j : Option ℕ) × Contains q.to j × (total_in known j ≡ None)

-- The place at the index was asked: there is none, or its total was shown and is known now, or it wasn't and is left.
abbrev pub WasAsked : List NumberedPlace → ℕ → ℕ → List (Option ℕ) → List (Option ℕ) → List ℕ → List ℕ → Type 0
WasAsked places most i known new left new_left =
    ((slice_get places i ≡ None) × (new ≡ known) × (new_left ≡ left))
    ⊎ (((q : NumberedPlace) × (v : ℕ) × (slice_get places i ≡ Some q) × Shows most known q v × (new ≡ set known q.node (Some v)) × (new_left ≡ left))
    ⊎ ((q : NumberedPlace) × (slice_get places i ≡ Some q) × LacksOne known q × (new ≡ known) × (new_left ≡ left ++ i ∷ [])))

-- So many places were asked, in turn.
pub record WereAsked (qs : List NumberedPlace) (most : ℕ) (n : ℕ) (asked : List ℕ) (known new : List (Option ℕ)) (left : List ℕ) : Type 0 where
  pub sound : (places : List WeightedPlace) (numbers : BTreeMap Term ℕ) → AreNumbered places numbers qs → AreSound places most numbers known → AreSound places most numbers new
  pub room : length new ≡ length known
  pub kept : (j : ℕ) → IsKnown known j → IsKnown new j
  pub each : (i : ℕ) (q : NumberedPlace) → Contains asked i → slice_get qs i ≡ Some q → IsKnown new q.node ⊎ Contains left i
  pub fewer : length left ≤ n
  -- where all are left, none was shown
  pub still : length left ≡ n → (new ≡ known) × ((i : ℕ) (q : NumberedPlace) → Contains asked i → slice_get qs i ≡ Some q → LacksOne known q)

-- What is known is sound, and nothing more is shown.
pub record AreSettled (qs : List NumberedPlace) (most : ℕ) (known : List (Option ℕ)) : Type 0 where
  pub sound : (places : List WeightedPlace) (numbers : BTreeMap Term ℕ) → AreNumbered places numbers qs → AreSound places most numbers known
  pub still : (q : NumberedPlace) → Contains qs q → IsKnown known q.node ⊎ LacksOne known q

-- the table has just what is known, by the nodes
pub record Tells (numbers : BTreeMap Term ℕ) (known : List (Option ℕ)) (table : BTreeMap Term ℕ) : Type 0 where
  pub sound : (n : Term) (v : ℕ) → entry table n ≡ Some v → total_known numbers known n ≡ Some v
  pub all : (n : Term) (v : ℕ) → total_known numbers known n ≡ Some v → (w : ℕ) × (entry table n ≡ Some w)
