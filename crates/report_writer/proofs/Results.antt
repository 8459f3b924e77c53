-- The report's lines, result by result.
use Rattle.std.proofs.Common.{◌≡◌, ◌∙◌, ◌<◌, ◌+◌, ℕ, suc, List, [], ◌∷◌, ◌++◌, length, drop, get_or, refl, sym, ap, codes, append_assoc, add-one}
use Rattle.std.specs.List.{Contains}
use Rattle.std.proofs.Math.Seq.{drop-cons}
use Rattle.shape_model.specs.declared.result_row.ResultRow.{ResultRow}
use Rattle.collections.proofs.Members.{has_head, has_tail}
use Rattle.report_writer.specs.Report.{conforms_text, report_by, result_label, results_by, statement}

module _ (text : List ℕ → ResultRow → List ℕ) where
  -- one result more is written
  pub one_more : (rows : List ResultRow) (i : ℕ) (row : ResultRow) (out new all : List ℕ) → i < length rows → row ≡ get_or rows i row → new ≡ out ++ text (result_label (i + 1)) row
      → out ++ results_by text (i + 1) (drop i rows) ≡ all
      → new ++ results_by text (i + 1 + 1) (drop (i + 1) rows) ≡ all
  one_more rows i row out new all less is written before =
      let rest : List ℕ = results_by text (i + 1 + 1) (drop (i + 1) rows) in
      let split : drop i rows ≡ row ∷ drop (i + 1) rows = drop-cons rows i row less ∙ (ap (λ r. r ∷ drop (suc i) rows) (sym is) ∙ ap (λ n. row ∷ drop n rows) (sym (add-one i))) in
      ap (λ t. t ++ rest) written
      ∙ append_assoc out (text (result_label (i + 1)) row) rest
      ∙ sym (ap (λ rs. out ++ results_by text (i + 1) rs) split)
      ∙ before

-- with the same lines it is the same report
results_same : (text other : List ℕ → ResultRow → List ℕ) (rows : List ResultRow) → ((r : ResultRow) → Contains rows r → (label : List ℕ) → text label r ≡ other label r) → (i : ℕ) → results_by text i rows ≡ results_by other i rows
results_same text other [] same i = refl
results_same text other (r ∷ rows) same i =
    ap (λ t. t ++ results_by text (i + 1) rows) (same r (has_head r rows) (result_label i))
    ∙ ap (λ t. other (result_label i) r ++ t) (results_same text other rows (λ q c. same q (has_tail r rows q c)) (i + 1))

pub report_same : (text other : List ℕ → ResultRow → List ℕ) (rows : List ResultRow) → ((r : ResultRow) → Contains rows r → (label : List ℕ) → text label r ≡ other label r) → report_by text rows ≡ report_by other rows
report_same text other rows same = ap (λ (results : List ℕ). codes "@prefix sh: <http://www.w3.org/ns/shacl#> .\n" ++ statement (codes "_:r") (codes "a") (codes "sh:ValidationReport") ++ statement (codes "_:r") (codes "sh:conforms") (conforms_text rows) ++ results) (results_same text other rows same 1)

-- the results come after the lines on the whole report
pub after_head : (text : List ℕ → ResultRow → List ℕ) (rows : List ResultRow) → (codes "@prefix sh: <http://www.w3.org/ns/shacl#> .\n" ++ statement (codes "_:r") (codes "a") (codes "sh:ValidationReport") ++ statement (codes "_:r") (codes "sh:conforms") (conforms_text rows)) ++ results_by text 1 rows ≡ report_by text rows
after_head text rows = simp append_assoc
