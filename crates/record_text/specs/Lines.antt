-- Lines that begin with a mark. Not seen by any caller.
use Rattle.std.specs.Prelude.{◌≡◌, ◌≢◌, ℕ, ◌<◌, List, [], ◌∷◌, ◌++◌, length, slice_index}
use Rattle.std.specs.List.{AllByRecursion, flat_map}

-- no byte ends a line
abbrev pub HasNoEnd : List ℕ → Type 0
HasNoEnd line = (i : ℕ) → i < length line → slice_index line i ≢ 10

-- a line with its LF, and behind a mark
abbrev pub ended : List ℕ → List ℕ
ended line = line ++ 10 ∷ []

abbrev pub marked : List ℕ → List ℕ → List ℕ
marked mark line = mark ++ ended line

-- no line of the text's beginning has the mark
abbrev pub HasNoMark : List ℕ → List ℕ → Type 0
HasNoMark mark text = (line rest : List ℕ) → HasNoEnd line → text ≢ marked mark line ++ rest

-- the first lines that have the mark, without their marks, and what follows them
pub record IsUnmarked (mark text lines rest : List ℕ) : Type 0 where
  pub each : List (List ℕ)
  pub lines_of : AllByRecursion HasNoEnd each
  pub text_is : text ≡ flat_map (marked mark) each ++ rest
  pub lines_are : lines ≡ flat_map ended each
  pub no_more : HasNoMark mark rest
