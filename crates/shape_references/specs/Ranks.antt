-- Ranks of nodes, by their numbers.
use Rattle.std.specs.Prelude.{◌≤◌, ◌<◌, ℕ, List, Option, Some, None, length, get_or}
use Rattle.std.specs.List.{Contains}
use Rattle.shape_references.specs.declared.steps.Step.{Step}

-- the rank at the number; that of a node without a number is above all others
abbrev pub rank_in : List ℕ → Option ℕ → ℕ
rank_in ranks None = length ranks
rank_in ranks (Some i) = get_or ranks i 0

-- no step leads to a lower rank
abbrev pub AreLevel : List Step → List ℕ → Type 0
AreLevel steps ranks = (s : Step) → Contains steps s → rank_in ranks s.from ≤ rank_in ranks s.to

-- the step leads to a higher rank
abbrev pub Rises : List ℕ → Step → Type 0
Rises ranks s = rank_in ranks s.from < rank_in ranks s.to
