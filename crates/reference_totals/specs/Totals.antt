-- Totals over references, each counted as often as it stands.
use Rattle.std.specs.Prelude.{◌≡◌, ◌+◌, ℕ, zero, suc, min, List, [], ◌∷◌, Option, Some}
use Rattle.std.specs.List.{Contains}
use Rattle.std.specs.BTreeMap.{BTreeMap, get_by}
use Rattle.rdf_model.specs.declared.term.Term.{Term}
use Rattle.rdf_model.specs.Terms.{term_cmp}
use Rattle.reference_totals.specs.declared.place.WeightedPlace.{WeightedPlace}

-- k is the sum of numbers that T gives of the items, one of each item
abbrev pub SumBy : {X : Type 0} → (X → ℕ → Type 0) → List X → ℕ → Type 0
SumBy T [] k = k ≡ 0
SumBy T (x ∷ xs) k = (a : ℕ) × (b : ℕ) × T x a × SumBy T xs b × (k ≡ a + b)

-- The node's total is k, by chains of fewer references than this number: the own weight of its place, and the totals
-- of the nodes to which the place refers.
abbrev pub TotalBy : List WeightedPlace → ℕ → Term → ℕ → Type 0
TotalBy places zero n k = ⊥
TotalBy places (suc depth) n k =
    (p : WeightedPlace) × Contains places p × (p.node ≡ n) × ((sum : ℕ) × SumBy (TotalBy places depth) p.to sum × (k ≡ p.own + sum))

-- the node's total is k
abbrev pub HasTotal : List WeightedPlace → Term → ℕ → Type 0
HasTotal places n k = (depth : ℕ) × TotalBy places depth n k

-- a number as far as it is counted: to one more than the most
abbrev pub capped : ℕ → ℕ → ℕ
capped most k = min k (most + 1)

-- what the table has for the node
abbrev pub entry : BTreeMap Term ℕ → Term → Option ℕ
entry table n = get_by (term_cmp n) table

-- the table has just the nodes with a total, each with its total as far as it is counted
pub record AreTotals (places : List WeightedPlace) (most : ℕ) (table : BTreeMap Term ℕ) : Type 0 where
  pub sound : (n : Term) (v : ℕ) → entry table n ≡ Some v → (k : ℕ) × HasTotal places n k × (v ≡ capped most k)
  pub all : (n : Term) (k : ℕ) → HasTotal places n k → (v : ℕ) × (entry table n ≡ Some v)

-- places of one node are equal
abbrev pub HaveOnePlace : List WeightedPlace → Type 0
HaveOnePlace places = (p q : WeightedPlace) → Contains places p → Contains places q → p.node ≡ q.node → (p.own ≡ q.own) × (p.to ≡ q.to)

-- Then a node has one total.
abbrev pub OneTotalLaw : Type 0
OneTotalLaw = (places : List WeightedPlace) → HaveOnePlace places → (n : Term) (j k : ℕ) → HasTotal places n j → HasTotal places n k → j ≡ k
