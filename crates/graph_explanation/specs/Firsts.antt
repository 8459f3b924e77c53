-- The first of each result among aimed rows.
use Rattle.std.specs.Prelude.{◌≡◌, ℕ, List, get_or, length, map, take}
use Rattle.std.specs.List.{Contains}
use Rattle.collections.specs.Ordered.{IsAscending}
use Rattle.rdf_model.specs.declared.ids.Ids.{Ids}
use Rattle.rdf_model.specs.declared.term.Term.{Term}
use Rattle.shape_model.specs.declared.result_row.ResultRow.{ResultRow}
use Rattle.shape_model.specs.Rows.{result_row_cmp}
use Rattle.shape_ast.specs.declared.shape.Shape.{Shape}
use Rattle.result_evidence.specs.declared.aimed_row.AimedRow.{AimedRow}
use Rattle.graph_explanation.specs.Explanations.{IsTextOf}

-- no item before the place has the row of the one there, or some item has
abbrev pub IsNewAt : List AimedRow → ℕ → Type 0
IsNewAt all i = (y x : AimedRow) → y ≡ get_or all i y → Contains (take i all) x → x.row ≡ y.row → ⊥

abbrev pub IsOldAt : List AimedRow → ℕ → Type 0
IsOldAt all i = (y : AimedRow) → y ≡ get_or all i y → (x : AimedRow) × Contains (take i all) x × (x.row ≡ y.row)

abbrev pub kept_rows : List AimedRow → List ResultRow
kept_rows kept = map (λ (x : AimedRow). x.row) kept

-- of each row of the list one item is kept, in the order of results
pub record KeepsEach (all kept : List AimedRow) : Type 0 where
  pub ascending : IsAscending result_row_cmp (kept_rows kept)
  pub among : (x : AimedRow) → Contains kept x → Contains all x
  pub every : (x : AimedRow) → Contains all x → Contains (kept_rows kept) x.row

-- the text is that of evidence of the rows of the list, of which there are n
pub record IsTextOfEach (terms : List Term) (ids : List Ids) (shapes : List (Shape ℕ)) (all : List AimedRow) (n : ℕ) (text : List ℕ) : Type 0 where
  pub kept : List AimedRow
  pub keeps : KeepsEach all kept
  pub count : n ≡ length kept
  pub written : IsTextOf terms ids shapes (kept_rows kept) text
