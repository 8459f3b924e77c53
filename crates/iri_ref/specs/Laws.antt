-- What holds of the definitions.
use Rattle.std.specs.Prelude.{◌≡◌, ◌<◌, ℕ, Bool, true, false, List, ◌++◌, ◌==◌, Some, None, IfSome, nat_eq, length, codes}
use Rattle.std.specs.List.{list_all, list_any, starts_with}
use Rattle.std.specs.Str.{IsUtf8, chars}
use Rattle.iri_ref.specs.Scheme.{has_scheme}
use Rattle.iri_ref.specs.Components.{Components, components, joined, slash, question_mark, number_sign}
use Rattle.iri_ref.specs.DotSegments.{Buffers, step, without_dot_segments, has_dot_segment}
use Rattle.iri_ref.specs.Resolution.{resolved}

-- the components of a reference, joined, are the reference
abbrev pub JoinsAgain : Type 0
JoinsAgain = (text : List ℕ) → joined (components text) ≡ text

-- the text does not have this character
abbrev pub Lacks : ℕ → List ℕ → Type 0
Lacks mark text = list_any (λ c. c == mark) text ≡ false

-- appendix B: the delimiters that each component after the scheme cannot have
pub record FitsPattern (parts : Components) : Type 0 where
  pub authority : IfSome parts.authority (λ a. Lacks slash a × Lacks question_mark a × Lacks number_sign a)
  pub path : Lacks question_mark parts.path × Lacks number_sign parts.path
  pub query : IfSome parts.query (Lacks number_sign)
  pub no_authority : parts.authority ≡ None → starts_with nat_eq parts.path (codes "//") ≡ false

-- each component ends at its delimiter
abbrev pub SplitsAtDelimiters : Type 0
SplitsAtDelimiters = (text : List ℕ) → FitsPattern (components text)

-- a reference that has a scheme is its own target
abbrev pub KeepsWithScheme : Type 0
KeepsWithScheme = (base reference : List ℕ) → has_scheme reference ≡ true → resolved base reference ≡ reference

-- the target of any other begins with the scheme of the base and a colon
abbrev pub BeginsWithScheme : Type 0
BeginsWithScheme = (base reference : List ℕ) → has_scheme base ≡ true → has_scheme reference ≡ false → (scheme : List ℕ) × (rest : List ℕ) × ((components base).scheme ≡ Some scheme) × (resolved base reference ≡ scheme ++ codes ":" ++ rest)

-- so every target has a scheme, and may be a base
abbrev pub GivesScheme : Type 0
GivesScheme = (base reference : List ℕ) → has_scheme base ≡ true → has_scheme (resolved base reference) ≡ true

-- a path without its dot segments has none
abbrev pub RemovesDotSegments : Type 0
RemovesDotSegments = (path : List ℕ) → has_dot_segment (without_dot_segments path) ≡ false

-- and a path that has none is unchanged
abbrev pub KeepsOtherSegments : Type 0
KeepsOtherSegments = (path : List ℕ) → has_dot_segment path ≡ false → without_dot_segments path ≡ path

-- each step at dot segments shortens the input
abbrev pub ShortensInput : Type 0
ShortensInput = (b : Buffers) → 0 < length b.input → length (step b).input < length b.input

-- A target is a text of characters of the base and of the reference, and of the four delimiters: it passes each test of
-- characters that these pass.
abbrev pub KeepsCharacters : Type 0
KeepsCharacters = (passes : ℕ → Bool) (base reference : List ℕ) → list_all passes (codes ":/?#") ≡ true → IsUtf8 base → IsUtf8 reference
    → list_all passes (chars base) ≡ true → list_all passes (chars reference) ≡ true → IsUtf8 (resolved base reference) × (list_all passes (chars (resolved base reference)) ≡ true)
