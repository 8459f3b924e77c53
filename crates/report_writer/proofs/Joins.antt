-- The parts that the lines of a result are written in make its text.
use Rattle.std.proofs.Common.{◌≡◌, ◌∙◌, ◌<◌, ◌+◌, ℕ, List, [], ◌∷◌, ◌++◌, sym, ap, codes, append_assoc, append-nil, false, get_or, length, map, suc, take}
use Rattle.std.proofs.Math.Dec.{eqb-suc-zero}
use Rattle.std.specs.Prelude.{◌==◌, Bool, if◌then◌else◌}
use Rattle.std.specs.List.{flat_map}
use Rattle.std.proofs.lemmas.Grind.{flat_map-append}
use Rattle.std.proofs.lemmas.List.{map-append, take_more}
use Rattle.rdf_model.specs.declared.term.Term.{Term}
use Rattle.rdf_model.specs.NTriples.{term_text}
use Rattle.shape_model.specs.declared.result_row.ResultRow.{ResultRow}
use Rattle.report_writer.specs.Report.{component_name, conforms_text, listed, result_lines, statement, statements, term_statements}

in_turn : (o o1 o2 o3 o4 o5 o6 o7 a b c p v s n k m : List ℕ) → o1 ≡ o ++ a ++ b ++ c → o2 ≡ o1 ++ p → o3 ≡ o2 ++ v → o4 ≡ o3 ++ s → o5 ≡ o4 ++ n → o6 ≡ o5 ++ k → o7 ≡ o6 ++ m
    → o7 ≡ o ++ (a ++ b ++ c ++ p ++ v ++ s ++ n ++ k ++ m)
in_turn o o1 o2 o3 o4 o5 o6 o7 a b c p v s n k m e1 e2 e3 e4 e5 e6 e7 = rw (e7, e6, e5, e4, e3, e2, e1) (simp append_assoc)

pub joined : (label : List ℕ) (r : ResultRow) (path : List (List ℕ)) (severity : Term) (messages : List Term) (o o1 o2 o3 o4 o5 o6 o7 : List ℕ)
    → o1 ≡ o ++ statement (codes "_:r") (codes "sh:result") label ++ statement label (codes "a") (codes "sh:ValidationResult") ++ statement label (codes "sh:focusNode") (term_text r.focus_node)
    → o2 ≡ o1 ++ statements label (codes "sh:resultPath") path
    → o3 ≡ o2 ++ term_statements label (codes "sh:value") (listed r.value)
    → o4 ≡ o3 ++ statement label (codes "sh:resultSeverity") (term_text severity)
    → o5 ≡ o4 ++ statement label (codes "sh:sourceShape") (term_text r.source_shape)
    → o6 ≡ o5 ++ statement label (codes "sh:sourceConstraintComponent") (codes "sh:" ++ component_name r.component ++ codes "ConstraintComponent")
    → o7 ≡ o6 ++ term_statements label (codes "sh:resultMessage") messages
    → o7 ≡ o ++ result_lines label r path severity messages
joined label r path severity messages o o1 o2 o3 o4 o5 o6 o7 e1 e2 e3 e4 e5 e6 e7 =
    in_turn o o1 o2 o3 o4 o5 o6 o7
    (statement (codes "_:r") (codes "sh:result") label)
    (statement label (codes "a") (codes "sh:ValidationResult"))
    (statement label (codes "sh:focusNode") (term_text r.focus_node))
    (statements label (codes "sh:resultPath") path)
    (term_statements label (codes "sh:value") (listed r.value))
    (statement label (codes "sh:resultSeverity") (term_text severity))
    (statement label (codes "sh:sourceShape") (term_text r.source_shape))
    (statement label (codes "sh:sourceConstraintComponent") (codes "sh:" ++ component_name r.component ++ codes "ConstraintComponent"))
    (term_statements label (codes "sh:resultMessage") messages)
    e1 e2 e3 e4 e5 e6 e7

-- one term more has its line
pub one_term_more : (o now new label property : List ℕ) (terms : List Term) (i : ℕ) (term : Term) → i < length terms → term ≡ get_or terms i term
    → now ≡ o ++ term_statements label property (take i terms)
    → new ≡ now ++ statement label property (term_text term)
    → new ≡ o ++ term_statements label property (take (i + 1) terms)
one_term_more o now new label property terms i term less is before written =
    let whole : take (i + 1) terms ≡ take i terms ++ term ∷ [] = take_more terms i term less ∙ ap (λ (t : Term). take i terms ++ t ∷ []) (sym is) in
    let more : term_statements label property (take i terms ++ term ∷ []) ≡ term_statements label property (take i terms) ++ term_statements label property (term ∷ []) =
    ap (flat_map (statement label property)) (map-append term_text (take i terms) (term ∷ [])) ∙ flat_map-append (statement label property) (map term_text (take i terms)) (term_text term ∷ []) in
    written
    ∙ ap (λ (line : List ℕ). now ++ line) (sym (append-nil (statement label property (term_text term))))
    ∙ ap (λ (text : List ℕ). text ++ term_statements label property (term ∷ [])) before
    ∙ append_assoc o (term_statements label property (take i terms)) (term_statements label property (term ∷ []))
    ∙ ap (λ (text : List ℕ). o ++ text) (sym more)
    ∙ ap (λ (ts : List Term). o ++ term_statements label property ts) (sym whole)

-- the lines that begin a result
pub head_lines : (o o1 o2 o3 label term : List ℕ) → o1 ≡ o ++ codes "_:r sh:result " ++ label ++ codes " .\n" → o2 ≡ o1 ++ label ++ codes " a sh:ValidationResult" ++ codes " .\n" → o3 ≡ o2 ++ statement label (codes "sh:focusNode") term
    → o3 ≡ o ++ statement (codes "_:r") (codes "sh:result") label ++ statement label (codes "a") (codes "sh:ValidationResult") ++ statement label (codes "sh:focusNode") term
head_lines o o1 o2 o3 label term e1 e2 e3 = rw (e3, e2, e1) (simp append_assoc)

-- a line whose object is written by itself
pub object_line : (o o1 o2 o3 o4 label property text : List ℕ) → o1 ≡ o ++ label ++ codes " " ++ property → o2 ≡ o1 ++ codes " " → o3 ≡ o2 ++ text → o4 ≡ o3 ++ codes " .\n" → o4 ≡ o ++ statement label property text
object_line o o1 o2 o3 o4 label property text e1 e2 e3 e4 = rw (e4, e3, e2, e1) (simp append_assoc)

pub path_line : (o o1 o2 o3 label text : List ℕ) → o1 ≡ o ++ label ++ codes " sh:resultPath" ++ codes " " → o2 ≡ o1 ++ text → o3 ≡ o2 ++ codes " .\n" → o3 ≡ o ++ statement label (codes "sh:resultPath") text
path_line o o1 o2 o3 label text e1 e2 e3 = rw (e3, e2, e1) (simp append_assoc)

pub component_line : (o o1 o2 label name component : List ℕ) → name ≡ component → o1 ≡ o ++ label ++ codes " sh:sourceConstraintComponent sh:" ++ name → o2 ≡ o1 ++ codes "ConstraintComponent .\n"
    → o2 ≡ o ++ statement label (codes "sh:sourceConstraintComponent") (codes "sh:" ++ component ++ codes "ConstraintComponent")
component_line o o1 o2 label name component e e1 e2 = rw (e2, e1, e) (simp append_assoc)

not_empty : (n : ℕ) → (suc n == 0) ≡ false
not_empty n = eqb-suc-zero n

-- the lines that begin the report
pub begun : (text : List ℕ) (conforms : Bool) (rows : List ResultRow) → conforms ≡ (length rows == 0)
    → text ≡ codes "@prefix sh: <http://www.w3.org/ns/shacl#> .\n_:r a sh:ValidationReport .\n_:r sh:conforms " ++ ((if conforms then codes "true" else codes "false") ++ codes " .\n")
    → text ≡ codes "@prefix sh: <http://www.w3.org/ns/shacl#> .\n" ++ statement (codes "_:r") (codes "a") (codes "sh:ValidationReport") ++ statement (codes "_:r") (codes "sh:conforms") (conforms_text rows)
begun text conforms [] e written = written ∙ ap (λ b. codes "@prefix sh: <http://www.w3.org/ns/shacl#> .\n_:r a sh:ValidationReport .\n_:r sh:conforms " ++ ((if b then codes "true" else codes "false") ++ codes " .\n")) e
begun text conforms (r ∷ rows) e written = written ∙ ap (λ b. codes "@prefix sh: <http://www.w3.org/ns/shacl#> .\n_:r a sh:ValidationReport .\n_:r sh:conforms " ++ ((if b then codes "true" else codes "false") ++ codes " .\n")) (e ∙ not_empty (length rows))
