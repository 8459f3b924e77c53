-- The paths that stand in a sequence or an alternative, as the vector that holds them.
use Rattle.std.proofs.Common.{◌≡◌, ◌∙◌, List, ◌∷◌, Vec, Box, Global, map, refl, ap, sym, subst}
use Rattle.std.specs.Prelude.{◌↔◌}
use Rattle.std.specs.List.{All}
use Rattle.std.proofs.lemmas.List.Elements.{All-nil, All-cons, All-head, All-tail}
use mathlib.Core.Former.{Count}
use Rattle.rdf_model.specs.declared.term.Term.{Term}
use Rattle.shape_model.specs.Paths as defined
use Rattle.path_ast.specs.declared.path.Path.{Path, Sequence, Sequence', Row_of-Path, end_of-Path, more_of-Path, items-the_row-Path, items_hidden-the_row-Path-0, Alternative}
use Rattle.path_ast.specs.PathReadings.{HasEach, RowHasEach, members, read_path, read_row}

abbrev pub row_of : {P : Type 0} → Path P → (m : Count) × Row_of-Path P m
row_of (Sequence' _ _ _ row) = (_, row)
row_of _ = (_, end_of-Path)

-- what is said of each predicate, and the path that is read
module _ {P : Type 0} where
  each_items : (Q : P → Type 0) (m : _) (ps : Row_of-Path P m) → RowHasEach Q ps ↔ All (HasEach Q) (items-the_row-Path P m ps)
  each_items Q m end_of-Path = (λ h. All-nil (HasEach Q), λ h. tt)
  each_items Q m (more_of-Path p ps) = let k = each_items Q _ ps in (
    λ h. All-cons (HasEach Q) p _ h.0 (k.0 h.1),
    λ h. (All-head (HasEach Q) p _ h, k.1 (All-tail (HasEach Q) p _ h)),
  )

  read_items : (read : P → Term) (m : _) (ps : Row_of-Path P m) → read_row read ps ≡ map (read_path read) (items-the_row-Path P m ps)
  read_items read m end_of-Path = refl
  read_items read m (more_of-Path p ps) = λ i. read_path read p ∷ read_items read _ ps i

  module _ (first : Box (Path P) Global) (others : Vec (Path P) Global) where
    pub sequence_each : (Q : P → Type 0) → HasEach Q (Sequence first others) ↔ (HasEach Q first.value × All (HasEach Q) others.items)
    sequence_each Q =
        let row = row_of (Sequence first others) in
        let k = each_items Q row.0 row.1 in
        let same = items_hidden-the_row-Path-0 P others in
        (λ h. (h.0, subst (All (HasEach Q)) same (k.0 h.1)), λ h. (h.0, k.1 (subst (All (HasEach Q)) (sym same) h.1)))

    pub sequence_read : (read : P → Term) → read_path read (Sequence first others) ≡ defined.Sequence (members (read_path read first.value) (map (read_path read) others.items))
    sequence_read read =
        let row = row_of (Sequence first others) in
        ap (λ (ps : List defined.Path). defined.Sequence (members (read_path read first.value) ps)) (read_items read row.0 row.1 ∙ ap (map (read_path read)) (items_hidden-the_row-Path-0 P others))

    pub alternative_each : (Q : P → Type 0) → HasEach Q (Alternative first others) ↔ (HasEach Q first.value × All (HasEach Q) others.items)
    alternative_each = sequence_each

    pub alternative_read : (read : P → Term) → read_path read (Alternative first others) ≡ defined.Alternative (members (read_path read first.value) (map (read_path read) others.items))
    alternative_read read =
        let row = row_of (Sequence first others) in
        ap (λ (ps : List defined.Path). defined.Alternative (members (read_path read first.value) ps)) (read_items read row.0 row.1 ∙ ap (map (read_path read)) (items_hidden-the_row-Path-0 P others))
