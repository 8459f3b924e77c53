-- The shapes by their nodes.
use Rattle.std.specs.Prelude.{◌≡◌, ℕ, List, Option}
use Rattle.std.specs.Borrow.{Bor}
use Rattle.std.specs.BTreeMap.{BTreeMap, get_by}
use Rattle.std.specs.List.{find}
use Rattle.std.specs.Option.{option_copied, option_map}
use Rattle.rdf_model.specs.declared.term.Term.{Term}
use Rattle.rdf_model.specs.Terms.{term_cmp}
use Rattle.rdf_model.specs.Matching.{same_term}
use Rattle.shape_model.specs.declared.result_row.ResultRow.{ResultRow}
use Rattle.shape_ast.specs.declared.shape.Shape.{Shape}
use Rattle.shape_ast.specs.Readings.{read_shape}
use Rattle.report_writer.specs.CompiledReport.{lines_by}

abbrev pub Table : Type 0
Table = BTreeMap (Bor Term) (Bor (Shape Term))

-- the shape at a node
abbrev pub shape_at : Table → Term → Option (Shape Term)
shape_at table n = option_copied (get_by (λ k. term_cmp n k.now) table)

-- each node has the first of the shapes that have it
abbrev pub HasFirsts : List (Shape Term) → Table → Type 0
HasFirsts shapes table = (n : Term) → shape_at table n ≡ find (λ c. same_term c.node n) shapes

-- the lines of a result, by the shape at the node that is its source
abbrev pub row_lines : Table → List ℕ → ResultRow → List ℕ
row_lines table label r = lines_by label r (option_map (read_shape (λ t. t)) (shape_at table r.source_shape))
