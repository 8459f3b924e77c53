-- The report by compiled shapes is that by the triples of a well-formed shapes graph that they stand for.
use Rattle.std.proofs.Common.{◌≡◌, ◌∙◌, ℕ, List, map, [], ◌∷◌, refl, sym, ap, subst}
use Rattle.std.specs.Prelude.{◌↔◌, IsTrue, Option, Some, None, codes}
use Rattle.std.specs.List.{Contains}
use Rattle.std.specs.Option.{unwrap_or}
use Rattle.std.proofs.lemmas.List.Elements.{All-contains}
use Rattle.rdf_model.specs.declared.term.Term.{Term}
use Rattle.rdf_model.specs.declared.triple.Triple.{Triple}
use Rattle.rdf_model.specs.NTriples.{term_text}
use Rattle.shape_ast.specs.Readings.{ReadShape}
use Rattle.shape_ast.proofs.Agreeing.{same_active}
use Rattle.shape_ast.specs.Standing.{StandFor, shape_reading}
use Rattle.shape_model.specs.Limits.{levels_limit}
use Rattle.shape_model.specs.declared.result_row.ResultRow.{ResultRow}
use Rattle.shape_model.specs.Paths.{Path}
use Rattle.shape_model.specs.ShapeSyntax.{IsShape}
use Rattle.shape_model.specs.Readings.{IsDeactivated, IsNodeShape, ShapePath, reading}
use Rattle.shape_model.specs.Vocabulary.{ShDeactivated, ShPath, property_iri, sh, true_literal}
use Rattle.shape_model.specs.Declarations.{messages_of, severity_of, values_of}
use Rattle.shape_rules.specs.Broken.{IsWellFormed}
use Rattle.report_writer.specs.CompiledReport.{compiled_report, compiled_text, lines_by, result_path}
use Rattle.report_writer.specs.GraphPaths.{path_text_at}
use Rattle.report_writer.specs.PathTexts.{optional_text}
use Rattle.report_writer.specs.Report.{first_of, listed, path_by, path_of, report_text, result_lines, result_text}
use Rattle.report_writer.specs.Sources.{HaveSources}
use Rattle.report_writer.proofs.Finding.{is_there}
use Rattle.report_writer.proofs.GraphPaths.{path_law}
use Rattle.report_writer.proofs.GraphValues.{no_values, only_value}
use Rattle.report_writer.proofs.Results.{report_same}
use Rattle.report_writer.proofs.WellFormed.{one_value, shallow}

-- the text of the first sh:path of a node
abbrev pub own_texts : List Triple → Term → List (List ℕ)
own_texts s n = map (path_text_at levels_limit s) (first_of (values_of s n (property_iri ShPath)))

-- the path that a compiled shape has is the one of its triples
path_same : (s : List Triple) → IsWellFormed s → (n : Term) → IsShape s n → (path : Option Path) → ((p : Path) → ShapePath s n p ↔ (path ≡ Some p)) → IsNodeShape s n ↔ (path ≡ None) → optional_text path ≡ own_texts s n
path_same s well n shape None paths none = sym (ap (λ (vs : List Term). map (path_text_at levels_limit s) (first_of vs)) (no_values s n (property_iri ShPath) (none.1 refl)))
path_same s well n shape (Some p) paths none =
    let k = (paths p).1 refl in
    sym (
    ap (λ (vs : List Term). map (path_text_at levels_limit s) (first_of vs)) (only_value s n (property_iri ShPath) k.0 (k.1, λ w h. one_value s well n shape k.0 w k.1 h))
    ∙ ap (λ (t : List ℕ). t ∷ []) (path_law p levels_limit s k.0 k.2 (shallow s well n shape k.0 p k.1 k.2))
    )

module _ (shapes : List ReadShape) (s : List Triple) (stand : StandFor shapes s) (well : IsWellFormed s) (r : ResultRow) (active : IsDeactivated (reading s r.source_shape) → ⊥) where
  -- what the shape says of a result is what the graph says
  module _ (c : ReadShape) (i : Contains shapes c) (e : c.node ≡ r.source_shape) where
    path : result_path c.path r ≡ path_of s r
    path =
        let on : (IsDeactivated (reading s c.node) → ⊥) = subst (λ (n : Term). IsDeactivated (reading s n) → ⊥) (sym e) active in
        let same = same_active (reading s c.node) (shape_reading shapes c) (stand.each c i) on in
        ap (path_by r.component (map term_text (listed r.other))) (path_same s well c.node (stand.are_shapes c i) c.path same.path same.is_node_shape ∙ ap (own_texts s) e)

    severity : unwrap_or c.severity (sh (codes "Violation")) ≡ severity_of s r.source_shape
    severity = stand.severity c i ∙ ap (severity_of s) e

    messages : c.messages ≡ messages_of s r.source_shape
    messages = stand.messages c i ∙ ap (messages_of s) e

  -- the lines by the shapes are those by the graph
  lines_same : (c : ReadShape) → Contains shapes c → c.node ≡ r.source_shape → (label : List ℕ) → compiled_text shapes label r ≡ result_text s label r
  lines_same c i e label =
      let d = is_there shapes r.source_shape c i e in
      ap (lines_by label r) d.1
      ∙ (λ k. result_lines label r (path d.0 d.2 d.3 k) (severity d.0 d.2 d.3 k) (messages d.0 d.2 d.3 k))

pub by_graph : (shapes : List ReadShape) (s : List Triple) → StandFor shapes s → IsWellFormed s → (rows : List ResultRow) → HaveSources shapes rows → compiled_report shapes rows ≡ report_text s rows
by_graph shapes s stand well rows sources = report_same (compiled_text shapes) (result_text s) rows (λ r i label.
    let c = All-contains (λ (q : ResultRow). (d : ReadShape) × Contains shapes d × (d.node ≡ q.source_shape) × (IsTrue d.is_deactivated → ⊥)) rows r sources i in
    let active : (IsDeactivated (reading s r.source_shape) → ⊥)
    = (λ off. c.3 (((stand.each c.0 c.1).has ShDeactivated true_literal refl).0 (subst (λ (n : Term). IsDeactivated (reading s n)) (sym c.2) off)).0) in
    lines_same shapes s stand well r active c.0 c.1 c.2 label)
