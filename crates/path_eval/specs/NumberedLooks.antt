-- The looks that a walk along a path of numbers makes.
use Rattle.std.specs.Prelude.{◌≡◌, ◌⊎◌, ℕ, Bool, true, false, not, List, [], ◌∷◌}
use Rattle.rdf_model.specs.declared.ids.Ids.{Ids}
use Rattle.rdf_model.specs.declared.look.Look.{Look}
use Rattle.path_ast.specs.declared.path.Path.{Path, Predicate, Inverse', Sequence', Alternative', ZeroOrMore', OneOrMore', ZeroOrOne', Row_of-Path, end_of-Path, more_of-Path}
use Rattle.path_eval.specs.Relations.{Repeated}
use Rattle.path_eval.specs.NumberedWalks.{Reaches, RowBackward, Backward, look_from}

-- at each node that is reached by steps
abbrev pub AtRepeated : (ℕ → ℕ → Type 0) → (ℕ → Look ℕ → Type 0) → ℕ → Look ℕ → Type 0
AtRepeated R L x look = (z : ℕ) × Repeated R x z × L z look

abbrev mutual
  pub Reads : List Ids → Bool → Path ℕ → ℕ → Look ℕ → Type 0
  Reads ids reversed (Predicate p) x look = look ≡ look_from reversed p x
  Reads ids reversed (Inverse' _ p) x look = Reads ids (not reversed) p x look
  Reads ids false (Sequence' _ p _ ps) x look = Reads ids false p x look ⊎ ((z : ℕ) × Reaches ids false p x z × RowReadsOnward ids ps z look)
  Reads ids true (Sequence' _ p _ ps) x look = RowReadsBackward ids ps x look ⊎ ((z : ℕ) × RowBackward ids ps x z × Reads ids true p z look)
  Reads ids reversed (Alternative' _ p _ ps) x look = Reads ids reversed p x look ⊎ RowReadsSome ids reversed ps x look
  Reads ids reversed (ZeroOrMore' _ p) x look = AtRepeated (Reaches ids reversed p) (Reads ids reversed p) x look
  Reads ids reversed (OneOrMore' _ p) x look = AtRepeated (Reaches ids reversed p) (Reads ids reversed p) x look
  Reads ids reversed (ZeroOrOne' _ p) x look = Reads ids reversed p x look

  -- one after another, from the first to the last and from the last to the first; all of them
  pub RowReadsOnward : List Ids → {m : _} → Row_of-Path ℕ m → ℕ → Look ℕ → Type 0
  RowReadsOnward ids end_of-Path x look = ⊥
  RowReadsOnward ids (more_of-Path p ps) x look = Reads ids false p x look ⊎ ((z : ℕ) × Reaches ids false p x z × RowReadsOnward ids ps z look)

  pub RowReadsBackward : List Ids → {m : _} → Row_of-Path ℕ m → ℕ → Look ℕ → Type 0
  RowReadsBackward ids end_of-Path x look = ⊥
  RowReadsBackward ids (more_of-Path p ps) x look = RowReadsBackward ids ps x look ⊎ ((z : ℕ) × RowBackward ids ps x z × Reads ids true p z look)

  pub RowReadsSome : List Ids → Bool → {m : _} → Row_of-Path ℕ m → ℕ → Look ℕ → Type 0
  RowReadsSome ids reversed end_of-Path x look = ⊥
  RowReadsSome ids reversed (more_of-Path p ps) x look = Reads ids reversed p x look ⊎ RowReadsSome ids reversed ps x look

-- the same for lists of paths
abbrev pub ReadsOnward : List Ids → List (Path ℕ) → ℕ → Look ℕ → Type 0
ReadsOnward ids [] x look = ⊥
ReadsOnward ids (p ∷ ps) x look = Reads ids false p x look ⊎ ((z : ℕ) × Reaches ids false p x z × ReadsOnward ids ps z look)

abbrev pub ReadsBackward : List Ids → List (Path ℕ) → ℕ → Look ℕ → Type 0
ReadsBackward ids [] x look = ⊥
ReadsBackward ids (p ∷ ps) x look = ReadsBackward ids ps x look ⊎ ((z : ℕ) × Backward ids ps x z × Reads ids true p z look)

abbrev pub ReadsSome : List Ids → Bool → List (Path ℕ) → ℕ → Look ℕ → Type 0
ReadsSome ids reversed [] x look = ⊥
ReadsSome ids reversed (p ∷ ps) x look = Reads ids reversed p x look ⊎ ReadsSome ids reversed ps x look
