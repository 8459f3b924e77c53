-- Laws of the texts of histories.
use Rattle.std.specs.Prelude.{◌≡◌, ℕ, ◌≤◌, List, [], ◌∷◌, ◌++◌, map, Some, codes}
use Rattle.std.specs.List.{flat_map, AllByRecursion}
use Rattle.std.specs.Fmt.{decimal}
use Rattle.history_reader.specs.History.{history_of}

-- all are numbers of sessions
abbrev pub AreSessions : List ℕ → Type 0
AreSessions order = AllByRecursion (λ i. (1 ≤ i) × (i ≤ 64)) order

-- an order, written as `history` and each number after a space, with an LF at its end
abbrev pub line_of : List ℕ → List ℕ
line_of order = (codes "history" ++ flat_map (λ i. 32 ∷ decimal i) order) ++ 10 ∷ []

abbrev pub ReadsBack : Type 0
ReadsBack = (order : List ℕ) → AreSessions order → history_of (line_of order) ≡ Some (map Some order)
