-- The pieces and the parts of a line.
use Rattle.std.proofs.Common.{◌≡◌, ℕ, suc, true, false, cond, List, [], ◌∷◌, ◌++◌, length, take, drop, Option, Some, None, refl}
use Rattle.std.specs.List.{filter, onto_first}
use Rattle.session_reader.specs.declared.find_line.LinePlace.{LinePlace}
use Rattle.session_reader.specs.declared.find_line.LinePlace.TheVariants.{Outside}
use Rattle.session_reader.specs.FindLine.{behind, separates, pieces, is_part}
use Rattle.session_reader.specs.Progress.{pieces_behind}

-- pieces whose first goes on
abbrev pub onto : List ℕ → List (List ℕ) → List (List ℕ)
onto xs [] = xs ∷ []
onto xs (p ∷ ps) = (xs ++ p) ∷ ps

-- the pieces so far, at a place
abbrev pub pieces_at : List ℕ → LinePlace → ℕ → List (List ℕ)
pieces_at cs place i = onto (take i cs) (pieces place (drop i cs))

onto_nothing : (c : ℕ) (ps : List (List ℕ)) → onto_first c ps ≡ onto [] (onto_first c ps)
onto_nothing c [] = refl
onto_nothing c (p ∷ ps) = refl

-- before the first character
pub piece_begins : (cs : List ℕ) → pieces Outside cs ≡ pieces_at cs Outside 0
piece_begins [] = refl
piece_begins (c ∷ cs) =
    let first = onto_first c (pieces (behind Outside c) cs) in
    elim (separates Outside c) as (λ b. cond b ([] ∷ pieces Outside cs) first ≡ onto [] (cond b ([] ∷ pieces Outside cs) first)) [
      | true ↦ refl
      | false ↦ onto_nothing c (pieces (behind Outside c) cs)
    ]

-- the parts of what is left, and how long that is
abbrev pub parts_left : Option (List ℕ) → List (List ℕ)
parts_left o = filter is_part (pieces_behind o)

abbrev pub left_over : Option (List ℕ) → ℕ
left_over None = 0
left_over (Some rest) = suc (length rest)
