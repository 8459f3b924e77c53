-- The session files of a generated load.
use Rattle.std.specs.Prelude.{ℕ, ◌+◌, ◌-◌, ◌*◌, ◌%◌, List, [], ◌∷◌, ◌++◌, cond, codes, nat_eq}
use Rattle.std.specs.List.{flat_map, range_with_len}
use Rattle.std.specs.Fmt.{decimal}

-- a line with its LF
abbrev pub line : List ℕ → List ℕ
line text = text ++ 10 ∷ []

abbrev pub lines_text : List (List ℕ) → List ℕ
lines_text lines = flat_map line lines

-- each file begins with a transaction that stages the same shapes
unfoldable pub shapes_lines : List (List ℕ)
shapes_lines =
    codes "begin"
    ∷ codes "shapes turtle"
    ∷ codes "@prefix sh: <http://www.w3.org/ns/shacl#> ."
    ∷ codes "<e:S> sh:targetClass <e:C> ; sh:property <e:P> ."
    ∷ codes "<e:P> sh:path <e:p> ; sh:minCount 1 ; sh:maxCount 2 ."
    ∷ codes "%%"
    ∷ codes "commit"
    ∷ []

-- the IRI of number i
abbrev pub node : ℕ → List ℕ
node i = codes "<e:n" ++ decimal i ++ codes ">"

unfoldable pub type_lines : ℕ → List (List ℕ)
type_lines i = codes "begin" ∷ codes "add ntriples" ∷ (node i ++ codes " <http://www.w3.org/1999/02/22-rdf-syntax-ns#type> <e:C> .") ∷ []

-- number i, of n, points to another one, unless it is a tenth
unfoldable pub value_lines : ℕ → ℕ → List (List ℕ)
value_lines n i = cond (nat_eq (i % 10) 0) [] ((node i ++ codes " <e:p> " ++ node ((i * i) % n + 1) ++ codes " .") ∷ [])

unfoldable pub commit_lines : List (List ℕ)
commit_lines = codes "%%" ∷ codes "commit" ∷ []

-- the transaction of number i, of n
unfoldable pub transaction_lines : ℕ → ℕ → List (List ℕ)
transaction_lines n i = type_lines i ++ value_lines n i ++ commit_lines

-- every fourth number is the session's
unfoldable pub own_lines : ℕ → ℕ → ℕ → List (List ℕ)
own_lines n session i = cond (nat_eq ((i - 1) % 4) (session - 1)) (transaction_lines n i) []

-- the whole file of a session, one of four that play a load of the numbers from 1 to n
unfoldable pub workload : ℕ → ℕ → List ℕ
workload n session = lines_text (shapes_lines ++ flat_map (own_lines n session) (range_with_len 1 n))
