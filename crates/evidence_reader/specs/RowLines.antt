-- What is found of the lines of a result. Not seen by any caller.
use Rattle.std.specs.Prelude.{◌≡◌, ℕ, List, ◌++◌, Option, codes}
use Rattle.std.specs.Fmt.{decimal}
use Rattle.rdf_model.specs.declared.term.Term.{Term}
use Rattle.rdf_model.specs.NTriples.{term_text}
use Rattle.shape_model.specs.declared.component.Component.{Component}
use Rattle.shape_model.specs.declared.result_row.ResultRow.{ResultRow}
use Rattle.shape_model.specs.Rows.{component_number}
use Rattle.evidence_blocks.specs.BlockText.{row_terms}
use Rattle.evidence_blocks.specs.Readable.{IsReadableOption, IsReadableRow, IsReadableTerm}
use Rattle.evidence_reader.specs.Finding.{FollowsRow, HasNot, marked_line, marked_option}

-- two terms, each on a line behind its mark
abbrev pub AreReadable : Term × Term → Type 0
AreReadable x = IsReadableTerm x.0 × IsReadableTerm x.1

abbrev pub two_lines : List ℕ → List ℕ → Term × Term → List ℕ
two_lines mark second x = marked_line mark (term_text x.0) ++ marked_line second (term_text x.1)

-- the line of a component
abbrev pub component_line : Component → List ℕ
component_line c = marked_line (codes "component ") (decimal (component_number c))

-- source shape, focus node and component
abbrev pub IsReadableHead : (Term × Term) × Component → Type 0
IsReadableHead x = AreReadable x.0 × Unit {0}

abbrev pub head_text : (Term × Term) × Component → List ℕ
head_text x = two_lines (codes "source ") (codes "focus ") x.0 ++ component_line x.1

-- What was found is a term, or none. And whichever begins the text behind the mark, before what doesn't begin with that, was
-- found.
pub record FindsOption (mark text : List ℕ) (found : Option Term) (rest : List ℕ) : Type 0 where
  pub sound : IsReadableOption found
  pub every : (o : Option Term) (behind : List ℕ) → IsReadableOption o → HasNot mark behind → text ≡ marked_option mark o ++ behind → (found ≡ o) × (rest ≡ behind)

-- the row has what was read before; its other terms are those with which the text begins
pub record FindsTerms (head : (Term × Term) × Component) (text : List ℕ) (row : ResultRow) (rest : List ℕ) : Type 0 where
  pub source_shape : row.source_shape ≡ head.0.0
  pub focus_node : row.focus_node ≡ head.0.1
  pub component : row.component ≡ head.1
  pub sound : IsReadableOption row.parameter × IsReadableOption row.about × IsReadableOption row.value × IsReadableOption row.other
  pub every : (r : ResultRow) (behind : List ℕ) → IsReadableRow r → FollowsRow behind → text ≡ row_terms r ++ behind
      → (row.parameter ≡ r.parameter) × (row.about ≡ r.about) × (row.value ≡ r.value) × (row.other ≡ r.other) × (rest ≡ behind)
