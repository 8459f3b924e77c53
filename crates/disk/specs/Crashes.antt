-- What a crash may leave on a disk: a disk is a history of moments, and each moment allows some images.
use Rattle.std.specs.Prelude.{◌≡◌, ◌⊎◌, ℕ, ◌+◌, ◌<◌, ◌≤◌, List, [], ◌∷◌, ◌++◌, length, take, drop, slice_index}
use Rattle.std.specs.List.{AllByRecursion}

-- the bytes that the last sync made durable, and the ranges that were written since, each by its place and its size
pub record Moment : Type 0 where
  pub durable : List ℕ
  pub unsynced : List (ℕ × ℕ)

-- the moment that a disk is at, and those before it, the first one first
pub record History : Type 0 where
  pub past : List Moment
  pub now : Moment

-- all moments, the present one last
abbrev pub moments : History → List Moment
moments h = h.past ++ h.now ∷ []

-- the place lies in none of the ranges
abbrev pub IsOutside : ℕ → List (ℕ × ℕ) → Type 0
IsOutside i [] = Unit {0}
IsOutside i (r ∷ rs) = ((i < r.0) ⊎ (r.0 + r.1 ≤ i)) × IsOutside i rs

-- Each byte outside the ranges is as it was. In the ranges and past the old end any bytes may stand.
pub record IsTorn (durable : List ℕ) (ranges : List (ℕ × ℕ)) (image : List ℕ) : Type 0 where
  pub no_shorter : length durable ≤ length image
  pub outside : (i : ℕ) → i < length durable → IsOutside i ranges → slice_index image i ≡ slice_index durable i

-- A crash leaves what is durable where nothing was written since the last sync, else that, torn.
abbrev pub LeavesBy : List ℕ → List (ℕ × ℕ) → List ℕ → Type 0
LeavesBy durable [] image = image ≡ durable
LeavesBy durable (r ∷ rs) image = IsTorn durable (r ∷ rs) image

abbrev pub Leaves : Moment → List ℕ → Type 0
Leaves m image = LeavesBy m.durable m.unsynced image

-- each image that a crash at this moment may leave has P
abbrev pub EachCrash : (List ℕ → Type 0) → Moment → Type 0
EachCrash P m = (image : List ℕ) → Leaves m image → P image

-- the moment of a disk on which all bytes are durable
abbrev pub settled : List ℕ → Moment
settled bytes = record { durable = bytes; unsynced = [] }

-- a new moment
abbrev pub after_moment : History → Moment → History
after_moment h m = record { past = h.past ++ h.now ∷ []; now = m }

-- a new moment, with one more range that isn't synced
abbrev pub written : ℕ → ℕ → History → History
written at size h = after_moment h (record { durable = h.now.durable; unsynced = h.now.unsynced ++ (at, size) ∷ [] })

-- a new moment, at which all of these bytes are durable
abbrev pub synced : List ℕ → History → History
synced bytes h = after_moment h (settled bytes)

-- the bytes with a piece written over them, and past their end
abbrev pub overwritten : List ℕ → ℕ → List ℕ → List ℕ
overwritten bytes at piece = take at bytes ++ piece ++ drop (at + length piece) bytes

-- From one state of a disk to a later one, a crash at any moment, the first and the last one too, leaves an image that has P.
pub record Throughout (old new : History) (P : List ℕ → Type 0) : Type 0 where
  pub begins : EachCrash P old.now
  pub later : List Moment
  pub grew : moments new ≡ moments old ++ later
  pub each : AllByRecursion (EachCrash P) later
