-- The values of a property at the focus node, beside the value nodes (SHACL 4.5).
use Rattle.std.specs.Prelude.{◌≡◌, ℕ, Bool, true, false, List}
use Rattle.std.specs.List.{Contains}
use Rattle.rdf_model.specs.declared.term.Term.{Term}
use Rattle.rdf_model.specs.declared.ids.Ids.{Ids}
use Rattle.rdf_model.specs.Numbers.{term_at, graph_of}
use Rattle.shape_model.specs.declared.result_row.ResultRow.{ResultRow}
use Rattle.shape_model.specs.Components.{Finding, Surroundings, found_beside}
use Rattle.shape_model.specs.TermTests.{IsLess, IsAtMost}
use Rattle.shape_model.specs.Triples.{Has}
use Rattle.component_rows.specs.Listed.{at_nodes}
use Rattle.component_rows.specs.Nodes.{HasNode}
use Rattle.component_rows.specs.Sites.{Spot}
use Rattle.pair_constraints.specs.declared.order.Comparison.{Comparison}
use Rattle.pair_constraints.specs.declared.order.Comparison.TheVariants.{Less, AtMost}

-- surroundings in which the value nodes and the values of properties at the focus node are told
abbrev pub at_focus : List Term → List Ids → List ℕ → Term → Surroundings
at_focus terms ids values f = record (at_nodes (HasNode terms values)) { focus_value = λ q w. Has (graph_of terms ids) f q w }

abbrev pub at_site : List Ids → Spot → Surroundings
at_site ids s = at_focus s.terms ids s.values (term_at s.terms s.focus)

-- the number is one of the others, or where it isn't wanted there, none of them
abbrev pub IsKept : Bool → List ℕ → ℕ → Type 0
IsKept true others n = Contains others n
IsKept false others n = Contains others n → ⊥

-- the first term stands so to the other
abbrev pub Stands : Comparison → Term → Term → Type 0
Stands Less v w = IsLess v w
Stands AtMost v w = IsAtMost v w

-- the result of a value node and a value, unless the first stands so to the other
abbrev pub PairRow : List Term → (Finding → ResultRow) → Comparison → ℕ → ℕ → ResultRow → Type 0
PairRow terms row comparison v w r = (Stands comparison (term_at terms v) (term_at terms w) → ⊥) × (r ≡ row (found_beside (term_at terms v) (term_at terms w)))

-- those of a value node and any of the values, and of any value node
abbrev pub PairsAt : List Term → (Finding → ResultRow) → Comparison → List ℕ → ℕ → ResultRow → Type 0
PairsAt terms row comparison others v r = (w : ℕ) × Contains others w × PairRow terms row comparison v w r

abbrev pub Pairs : List Term → (Finding → ResultRow) → Comparison → List ℕ → List ℕ → ResultRow → Type 0
Pairs terms row comparison values others r = (v : ℕ) × Contains values v × PairsAt terms row comparison others v r
