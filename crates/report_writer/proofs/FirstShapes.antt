-- The table of the first shapes, one shape after the other.
use Rattle.std.proofs.Common.{Bor, ◌≡◌, ◌∙◌, ◌<◌, ◌+◌, ℕ, Bool, true, false, cond, List, [], ◌∷◌, ◌++◌, get_or, length, refl, sym, ap, subst, take}
use Rattle.std.specs.Prelude.{Option, Some, None, if◌then◌else◌, is_some}
use Rattle.std.specs.BTreeMap.{get_by}
use Rattle.std.specs.List.{All, find}
use Rattle.std.specs.Option.{IsSome, option_copied, option_map, option_or}
use Rattle.std.specs.Ordering.{is_eq}
use Rattle.std.proofs.lemmas.List.{take_more}
use Rattle.std.proofs.lemmas.List.Folds.{find-append}
use Rattle.rdf_model.specs.declared.term.Term.{Term}
use Rattle.rdf_model.specs.Terms.{term_cmp}
use Rattle.rdf_model.specs.Matching.{same_term}
use Rattle.rdf_model.proofs.SameTerms.{same_equal}
use Rattle.shape_ast.specs.declared.shape.Shape.{Shape}
use Rattle.shape_ast.specs.Readings.{ReadShape, read_shapes}
use Rattle.shape_model.specs.declared.result_row.ResultRow.{ResultRow}
use Rattle.report_writer.specs.CompiledReport.{compiled_text, lines_by}
use Rattle.report_writer.specs.Sources.{HaveSources}
use Rattle.report_writer.specs.Tables.{HasFirsts, Table, row_lines, shape_at}
use Rattle.report_writer.proofs.Finding.{as_read, finds, found_read, has_node}

found_already : (o : Option (Bor (Shape Term))) (c : Shape Term) (b : Bool) → (b ≡ true → is_some o ≡ true) → option_copied o ≡ option_or (option_copied o) (if b then Some c else None)
found_already (Some d) c b h = refl
found_already None c true h = cc (h refl)
found_already None c false h = refl

found_now : (o : Option (Bor (Shape Term))) (c : Bor (Shape Term)) (b : Bool) → (b ≡ true → is_some o ≡ false) → option_copied (cond b (Some c) o) ≡ option_or (option_copied o) (if b then Some c.now else None)
found_now None c true h = refl
found_now None c false h = refl
found_now (Some d) c true h = cc (h refl)
found_now (Some d) c false h = refl

-- a table that has the node stays
pub stays : (table : Table) (c : Shape Term) → is_some (get_by (λ k. term_cmp c.node k.now) table) ≡ true → (n : Term) → shape_at table n ≡ option_or (shape_at table n) (if same_term c.node n then Some c else None)
stays table c there n = found_already (get_by (λ k. term_cmp n k.now) table) c (same_term c.node n) (λ s. subst (λ (t : Term). is_some (get_by (λ k. term_cmp t k.now) table) ≡ true) (same_equal c.node n s) there)

-- one that lacks it is given the shape there
pub is_put : (old new : Table) (c : Bor (Shape Term)) → is_some (get_by (λ k. term_cmp c.now.node k.now) old) ≡ false
    → ((q : Bor Term) → get_by (λ k. term_cmp q.now k.now) new ≡ cond (is_eq (term_cmp c.now.node q.now)) (Some c) (get_by (λ k. term_cmp q.now k.now) old))
    → (n : Term) → shape_at new n ≡ option_or (shape_at old n) (if same_term c.now.node n then Some c.now else None)
is_put old new c absent updates n =
    let q : Bor Term = record { ref_ptr = (0, 0); now = n } in
    ap option_copied (updates q)
    ∙ found_now (get_by (λ k. term_cmp n k.now) old) c (same_term c.now.node n) (λ s. subst (λ (t : Term). is_some (get_by (λ k. term_cmp t k.now) old) ≡ false) (same_equal c.now.node n s) absent)

-- the first shape with a node, among one shape more
pub firsts_more : (shapes : List (Shape Term)) (i : ℕ) (c : Shape Term) → i < length shapes → c ≡ get_or shapes i c → (n : Term)
    → find (has_node n) (take (i + 1) shapes) ≡ option_or (find (has_node n) (take i shapes)) (if same_term c.node n then Some c else None)
firsts_more shapes i c less is n =
    ap (find (has_node n)) (take_more shapes i c less ∙ ap (λ (d : Shape Term). take i shapes ++ d ∷ []) (sym is))
    ∙ find-append (has_node n) (take i shapes) (c ∷ [])

-- the table has the sources that the shapes have
pub has_sources : (shapes : List (Shape Term)) (table : Table) → HasFirsts shapes table → (rows : List ResultRow) → HaveSources (read_shapes shapes) rows → All (λ r. IsSome (shape_at table r.source_shape)) rows
has_sources shapes table firsts rows have = λ i r less.
    let h = have i r less in
    let n = (get_or rows i r).source_shape in
    rw (firsts n) (finds shapes n h.0 h.1 h.2)

-- and the lines of a result by the table are those by the shapes
pub table_lines : (shapes : List (Shape Term)) (table : Table) → HasFirsts shapes table → (r : ResultRow) (label : List ℕ) → row_lines table label r ≡ compiled_text (read_shapes shapes) label r
table_lines shapes table firsts r label =
    ap (λ (o : Option (Shape Term)). lines_by label r (option_map as_read o)) (firsts r.source_shape)
    ∙ ap (λ (o : Option ReadShape). lines_by label r o) (found_read shapes r.source_shape)
