-- The results of a property shape at value nodes (SHACL 4.7.2), handed in by the places of the nodes.
use Rattle.std.specs.Prelude.{◌≡◌, ◌<◌, ℕ, List, [], length}
use Rattle.std.specs.List.{Contains}
use Rattle.std.proofs.Common.{get_or}
use Rattle.rdf_model.specs.declared.term.Term.{Term}
use Rattle.rdf_model.specs.Numbers.{term_at}
use Rattle.shape_model.specs.declared.result_row.ResultRow.{ResultRow}
use Rattle.shape_model.specs.Components.{Surroundings}
use Rattle.shape_model.specs.Readings.{Reading}
use Rattle.shape_model.specs.Vocabulary.{ShProperty}
use Rattle.component_rows.specs.Listed.{at_nodes, untold}
use Rattle.component_rows.specs.Nodes.{HasNode}

-- the result is in the list of the value node v
abbrev pub IsRowAt : List Term → List ℕ → List (List ResultRow) → Term → ResultRow → Type 0
IsRowAt terms values rows v r = (i : ℕ) × (i < length values) × (term_at terms (get_or values i 0) ≡ v) × Contains (get_or rows i []) r

-- surroundings in which a shape gives at each value node just the results of its list
abbrev pub told_rows : List Term → List ℕ → List (List ResultRow) → Surroundings
told_rows terms values rows = record (at_nodes (HasNode terms values)) { row = λ m v r. IsRowAt terms values rows v r }

-- a shape of which one value of sh:property is told
abbrev pub with_property : Term → Reading
with_property shape = record untold { has = λ p m. (p ≡ ShProperty) × (m ≡ shape) }
