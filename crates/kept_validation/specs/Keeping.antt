-- When just the results of some pairs of a shape and a focus node are kept, for each shapes graph that compiled shapes stand for.
use Rattle.std.specs.Prelude.{◌≡◌, ◌↔◌, ℕ, List, take}
use Rattle.std.specs.List.{Contains}
use Rattle.rdf_model.specs.declared.term.Term.{Term}
use Rattle.rdf_model.specs.declared.triple.Triple.{Triple}
use Rattle.rdf_model.specs.declared.ids.Ids.{Ids}
use Rattle.rdf_model.specs.Numbers.{graph_of, term_at}
use Rattle.shape_model.specs.Limits.{levels_limit}
use Rattle.shape_model.specs.declared.result_row.ResultRow.{ResultRow}
use Rattle.shape_model.specs.Readings.{IsAcyclic, IsShallow}
use Rattle.shape_model.specs.Validation.{At}
use Rattle.shape_ast.specs.declared.shape.Shape.{Shape}
use Rattle.shape_ast.specs.Readings.{ReadShape, named_shapes}
use Rattle.shape_ast.specs.Standing.{StandFor}
use Rattle.shape_eval.specs.Results.{AtPlace}
use Rattle.parallel_validate.specs.Counting.{IsNodeOf}
use Rattle.change_laws.specs.Pairs.{PairRow, PairedRow}
use Rattle.kept_rows.specs.declared.kept_row.KeptRow.{KeptRow}
use Rattle.kept_rows.specs.Laws.{AreBoundRows, KeepsResults, paired_rows}
use Rattle.threaded_listing.specs.declared.visit.NodeRows.{NodeRows}

-- the result is one of these, with the pair of both numbers
abbrev pub IsOfPair : ℕ → ℕ → List ResultRow → KeptRow → Type 0
IsOfPair shape focus rows k = (k.shape ≡ shape) × (k.focus ≡ focus) × Contains rows k.row

-- it is one of those of some of the nodes, with the pair of the shape and that node
abbrev pub IsOfSomeNode : ℕ → List NodeRows → KeptRow → Type 0
IsOfSomeNode shape found k = (node : NodeRows) × Contains found node × IsOfPair shape node.node node.rows k

-- just the results of which P holds are there, read as terms, and each number has a term
pub record KeepsWhere (terms : List Term) (kept : List KeptRow) (P : PairedRow → Type 0) : Type 0 where
  pub bound : AreBoundRows terms kept
  pub rows : (p : PairedRow) → Contains (paired_rows terms kept) p ↔ P p

-- it is one of the shape at one of the nodes with these numbers
abbrev pub IsAtNodes : List Term → List Triple → List Triple → Term → List ℕ → PairedRow → Type 0
IsAtNodes terms g s shape nodes p = (p.shape ≡ shape) × ((n : ℕ) × Contains nodes n × (p.focus ≡ term_at terms n)) × At g s shape p.focus p.row

-- it is one of the shape at its target, and of one of the shapes
abbrev pub IsOfShape : List Triple → List Triple → Term → PairedRow → Type 0
IsOfShape g s shape p = (p.shape ≡ shape) × PairRow g s shape p.focus p.row

abbrev pub IsOfSome : List Triple → List Triple → List ReadShape → PairedRow → Type 0
IsOfSome g s shapes p = IsNodeOf shapes p.shape × PairRow g s p.shape p.focus p.row

-- those of the shape at the place k, at some nodes
abbrev pub KeepsAtNodes : List Term → List Ids → List (Shape ℕ) → ℕ → List ℕ → List KeptRow → Type 0
KeepsAtNodes terms ids shapes k nodes kept = AtPlace terms shapes k (λ s c. IsAcyclic s → IsShallow levels_limit s → KeepsWhere terms kept (IsAtNodes terms (graph_of terms ids) s c.node nodes))

-- the same at its targets
abbrev pub KeepsOfShape : List Term → List Ids → List (Shape ℕ) → ℕ → List KeptRow → Type 0
KeepsOfShape terms ids shapes k kept = AtPlace terms shapes k (λ s c. IsAcyclic s → IsShallow levels_limit s → KeepsWhere terms kept (IsOfShape (graph_of terms ids) s c.node))

-- the same of the first shapes
abbrev pub KeepsOfFirst : List Term → List Ids → List (Shape ℕ) → ℕ → List KeptRow → Type 0
KeepsOfFirst terms ids shapes k kept = (s : List Triple) → StandFor (named_shapes terms shapes) s → IsAcyclic s → IsShallow levels_limit s
    → KeepsWhere terms kept (IsOfSome (graph_of terms ids) s (take k (named_shapes terms shapes)))

-- all results of the graph, by pairs (SHACL 3.6)
abbrev pub KeepsGraph : List Term → List Ids → List (Shape ℕ) → List KeptRow → Type 0
KeepsGraph terms ids shapes kept = (s : List Triple) → StandFor (named_shapes terms shapes) s → IsAcyclic s → IsShallow levels_limit s → KeepsResults terms (graph_of terms ids) s kept
