-- Walks along a sequence or an alternative, by the vector that holds its paths.
use Rattle.std.proofs.Common.{◌≡◌, ◌∙◌, ℕ, List, Vec, Box, Global, Bool, true, false, refl, ap}
use Rattle.std.specs.Prelude.{◌⊎◌}
use Rattle.rdf_model.specs.declared.ids.Ids.{Ids}
use Rattle.path_ast.specs.declared.path.Path.{Path, Sequence, Row_of-Path, end_of-Path, more_of-Path, items-the_row-Path, items_hidden-the_row-Path-0, Alternative}
use Rattle.path_ast.proofs.Rows.{row_of}
use Rattle.path_eval.specs.NumberedWalks.{Backward, Onward, Reaches, ReachesSome, RowBackward, RowOnward, RowSome}
use Rattle.path_eval.specs.NumberedLooks.{Reads, ReadsBackward, ReadsOnward, ReadsSome, RowReadsBackward, RowReadsOnward, RowReadsSome}

module _ (ids : List Ids) where
  onward_items : (m : _) (ps : Row_of-Path ℕ m) → RowOnward ids ps ≡ Onward ids (items-the_row-Path ℕ m ps)
  onward_items m end_of-Path = refl
  onward_items m (more_of-Path p ps) = λ i x y. (z : ℕ) × Reaches ids false p x z × onward_items _ ps i z y

  backward_items : (m : _) (ps : Row_of-Path ℕ m) → RowBackward ids ps ≡ Backward ids (items-the_row-Path ℕ m ps)
  backward_items m end_of-Path = refl
  backward_items m (more_of-Path p ps) = λ i x y. (z : ℕ) × backward_items _ ps i x z × Reaches ids true p z y

  some_items : (reversed : Bool) (m : _) (ps : Row_of-Path ℕ m) → RowSome ids reversed ps ≡ ReachesSome ids reversed (items-the_row-Path ℕ m ps)
  some_items reversed m end_of-Path = refl
  some_items reversed m (more_of-Path p ps) = λ i x y. Reaches ids reversed p x y ⊎ some_items reversed _ ps i x y

  reads_onward_items : (m : _) (ps : Row_of-Path ℕ m) → RowReadsOnward ids ps ≡ ReadsOnward ids (items-the_row-Path ℕ m ps)
  reads_onward_items m end_of-Path = refl
  reads_onward_items m (more_of-Path p ps) = λ i x look. Reads ids false p x look ⊎ ((z : ℕ) × Reaches ids false p x z × reads_onward_items _ ps i z look)

  reads_backward_items : (m : _) (ps : Row_of-Path ℕ m) → RowReadsBackward ids ps ≡ ReadsBackward ids (items-the_row-Path ℕ m ps)
  reads_backward_items m end_of-Path = refl
  reads_backward_items m (more_of-Path p ps) = λ i x look. reads_backward_items _ ps i x look ⊎ ((z : ℕ) × backward_items _ ps i x z × Reads ids true p z look)

  reads_some_items : (reversed : Bool) (m : _) (ps : Row_of-Path ℕ m) → RowReadsSome ids reversed ps ≡ ReadsSome ids reversed (items-the_row-Path ℕ m ps)
  reads_some_items reversed m end_of-Path = refl
  reads_some_items reversed m (more_of-Path p ps) = λ i x look. Reads ids reversed p x look ⊎ reads_some_items reversed _ ps i x look

  -- a sequence and an alternative, by the first path and the vector of the others
  module _ (first : Box (Path ℕ) Global) (others : Vec (Path ℕ) Global) where
    onward_is : RowOnward ids (row_of (Sequence first others)).1 ≡ Onward ids others.items
    onward_is = let row = row_of (Sequence first others) in onward_items row.0 row.1 ∙ ap (Onward ids) (items_hidden-the_row-Path-0 ℕ others)

    backward_is : RowBackward ids (row_of (Sequence first others)).1 ≡ Backward ids others.items
    backward_is = let row = row_of (Sequence first others) in backward_items row.0 row.1 ∙ ap (Backward ids) (items_hidden-the_row-Path-0 ℕ others)

    reads_onward_is : RowReadsOnward ids (row_of (Sequence first others)).1 ≡ ReadsOnward ids others.items
    reads_onward_is = let row = row_of (Sequence first others) in reads_onward_items row.0 row.1 ∙ ap (ReadsOnward ids) (items_hidden-the_row-Path-0 ℕ others)

    reads_backward_is : RowReadsBackward ids (row_of (Sequence first others)).1 ≡ ReadsBackward ids others.items
    reads_backward_is = let row = row_of (Sequence first others) in reads_backward_items row.0 row.1 ∙ ap (ReadsBackward ids) (items_hidden-the_row-Path-0 ℕ others)

    pub sequence_reaches : Reaches ids false (Sequence first others) ≡ (λ x y. (z : ℕ) × Reaches ids false first.value x z × Onward ids others.items z y)
    sequence_reaches = λ i x y. (z : ℕ) × Reaches ids false first.value x z × onward_is i z y

    pub sequence_reads : Reads ids false (Sequence first others) ≡ (λ x look. Reads ids false first.value x look ⊎ ((z : ℕ) × Reaches ids false first.value x z × ReadsOnward ids others.items z look))
    sequence_reads = λ i x look. Reads ids false first.value x look ⊎ ((z : ℕ) × Reaches ids false first.value x z × reads_onward_is i z look)

    pub reversed_reaches : Reaches ids true (Sequence first others) ≡ (λ x y. (z : ℕ) × Backward ids others.items x z × Reaches ids true first.value z y)
    reversed_reaches = λ i x y. (z : ℕ) × backward_is i x z × Reaches ids true first.value z y

    pub reversed_reads : Reads ids true (Sequence first others) ≡ (λ x look. ReadsBackward ids others.items x look ⊎ ((z : ℕ) × Backward ids others.items x z × Reads ids true first.value z look))
    reversed_reads = λ i x look. reads_backward_is i x look ⊎ ((z : ℕ) × backward_is i x z × Reads ids true first.value z look)

    some_is : (reversed : Bool) → RowSome ids reversed (row_of (Sequence first others)).1 ≡ ReachesSome ids reversed others.items
    some_is reversed = let row = row_of (Sequence first others) in some_items reversed row.0 row.1 ∙ ap (ReachesSome ids reversed) (items_hidden-the_row-Path-0 ℕ others)

    reads_some_is : (reversed : Bool) → RowReadsSome ids reversed (row_of (Sequence first others)).1 ≡ ReadsSome ids reversed others.items
    reads_some_is reversed = let row = row_of (Sequence first others) in reads_some_items reversed row.0 row.1 ∙ ap (ReadsSome ids reversed) (items_hidden-the_row-Path-0 ℕ others)

    pub alternative_reaches : (reversed : Bool) → Reaches ids reversed (Alternative first others) ≡ (λ x y. Reaches ids reversed first.value x y ⊎ ReachesSome ids reversed others.items x y)
    alternative_reaches reversed = λ i x y. Reaches ids reversed first.value x y ⊎ some_is reversed i x y

    pub alternative_reads : (reversed : Bool) → Reads ids reversed (Alternative first others) ≡ (λ x look. Reads ids reversed first.value x look ⊎ ReadsSome ids reversed others.items x look)
    alternative_reads reversed = λ i x look. Reads ids reversed first.value x look ⊎ reads_some_is reversed i x look
