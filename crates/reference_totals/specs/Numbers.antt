-- Numbers of nodes, and places by them.
use Rattle.std.specs.Prelude.{◌≡◌, ℕ, List, Some, map, cond, slice_get}
use Rattle.std.specs.List.{AllZip, Contains}
use Rattle.std.specs.BTreeMap.{BTreeMap}
use Rattle.std.specs.Ordering.{is_eq}
use Rattle.rdf_model.specs.declared.term.Term.{Term}
use Rattle.rdf_model.specs.Terms.{term_cmp}
use Rattle.reference_totals.specs.declared.place.WeightedPlace.{WeightedPlace}
use Rattle.reference_totals.specs.declared.numbers.NumberedPlace.{NumberedPlace}
use Rattle.reference_totals.specs.Totals.{entry}

-- the node has this entry now, and the others have theirs
abbrev pub Notes : BTreeMap Term ℕ → Term → ℕ → BTreeMap Term ℕ → Type 0
Notes table n v new = (m : Term) → entry new m ≡ cond (is_eq (term_cmp n m)) (Some v) (entry table m)

-- a node's number is the index of a place of it
abbrev pub AreIndices : List WeightedPlace → BTreeMap Term ℕ → Type 0
AreIndices places numbers = (n : Term) (i : ℕ) → entry numbers n ≡ Some i → (p : WeightedPlace) × (slice_get places i ≡ Some p) × (p.node ≡ n)

-- the node of each place has a number
abbrev pub HaveNumbers : List WeightedPlace → BTreeMap Term ℕ → Type 0
HaveNumbers places numbers = (p : WeightedPlace) → Contains places p → (i : ℕ) × (entry numbers p.node ≡ Some i)

-- q is the place p with numbers in place of nodes
pub record IsNumbered (numbers : BTreeMap Term ℕ) (p : WeightedPlace) (q : NumberedPlace) : Type 0 where
  pub node : entry numbers p.node ≡ Some q.node
  pub own : q.own ≡ p.own
  pub to : q.to ≡ map (entry numbers) p.to

-- qs are the places with numbers in place of nodes
pub record AreNumbered (places : List WeightedPlace) (numbers : BTreeMap Term ℕ) (qs : List NumberedPlace) : Type 0 where
  pub indices : AreIndices places numbers
  pub each : AllZip (IsNumbered numbers) places qs
