-- A log of texts, whatever they say, and what a crash may leave of it while one is put. Not seen by any caller.
use Rattle.std.specs.Prelude.{◌≡◌, ◌⊎◌, ℕ, ◌+◌, List, [], ◌∷◌, ◌++◌, length, map}
use Rattle.std.specs.List.{AllByRecursion}
use Rattle.disk.specs.Crashes.{IsTorn, overwritten}
use Rattle.commit_log.specs.Format.{Entry, IsOpened, front}

-- the image is a log of these texts
pub record OpensTexts (image : List ℕ) (texts : List (List ℕ)) : Type 0 where
  pub entries : List Entry
  pub opened : AllByRecursion IsOpened entries
  pub texts_are : map (λ e. e.1) entries ≡ texts
  pub rest : List ℕ
  pub whole : image ≡ front entries ++ 0 ∷ rest

-- the image is a log of these texts, or of these and the new one
abbrev pub OpensOneText : List (List ℕ) → List ℕ → List ℕ → Type 0
OpensOneText texts text image = OpensTexts image texts ⊎ OpensTexts image (texts ++ text ∷ [])

-- what a crash may leave of bytes over which a piece is put: they are torn there, or the piece stands
abbrev pub PutLeaves : List ℕ → ℕ → List ℕ → List ℕ → Type 0
PutLeaves old at piece image = IsTorn old ((at, length piece) ∷ []) image ⊎ (image ≡ overwritten old at piece)

-- what a crash may leave while a piece is put behind a gate, and then while the gate is opened
abbrev pub EnterLeaves : List ℕ → ℕ → List ℕ → List ℕ → Type 0
EnterLeaves old gate piece image =
    PutLeaves old (gate + 1) piece image ⊎ PutLeaves (overwritten old (gate + 1) piece) gate (1 ∷ []) image
