-- When a list of results is what a component gives at the value nodes of a focus node.
use Rattle.std.specs.Prelude.{◌≡◌, ◌↔◌, List, Some}
use Rattle.std.specs.List.{Contains}
use Rattle.collections.specs.Listings.{IsListing}
use Rattle.rdf_model.specs.declared.term.Term.{Term}
use Rattle.shape_model.specs.declared.component.Component.{Component}
use Rattle.shape_model.specs.declared.result_row.ResultRow.{ResultRow}
use Rattle.shape_model.specs.Components.{Surroundings, Finding, RowsOf, row_of}
use Rattle.shape_model.specs.Readings.{Reading}
use Rattle.shape_model.specs.Rows.{result_row_cmp}

-- the list has just the results of which P holds, in any order, each once or more
abbrev pub Collects : (ResultRow → Type 0) → List ResultRow → Type 0
Collects P rows = (r : ResultRow) → Contains rows r ↔ P r

-- the list has just the results of which P holds, each once, in the order of results
abbrev pub Lists : (ResultRow → Type 0) → List ResultRow → Type 0
Lists P rows = IsListing result_row_cmp P rows

-- about one node, with another value and what else tells the result apart
abbrev pub found_with : Term → Term → Term → Finding
found_with about value other = record { about = Some about; value = Some value; other = Some other }

-- Surroundings of which the value nodes alone are told, and a shape of which nothing is told: for components that ask for no more.
abbrev pub at_nodes : (Term → Type 0) → Surroundings
at_nodes IsValue = record { value_node = IsValue; instance = λ v c. ⊥; focus_value = λ q w. ⊥; triple = λ x p o. ⊥; row = λ shape v r. ⊥ }

abbrev pub untold : Reading
untold = record { path = λ p. ⊥; is_node_shape = ⊥; has = λ p v. ⊥; has_list = λ p head members. ⊥; sibling = λ t. ⊥; allowed = λ p. ⊥; is_class = ⊥ }

-- the same with one list told, which each property that takes lists has, under each head
abbrev pub with_list : List Term → Reading
with_list members = record untold { has_list = λ p head ms. ms ≡ members }

-- the same with the predicates told that a closed shape allows
abbrev pub with_allowed : (Term → Type 0) → Reading
with_allowed IsAllowed = record untold { allowed = IsAllowed }

-- just the results of the component at the value q of its parameter, each once, in order
abbrev pub ListsRows : Component → Surroundings → Reading → Term → Term → Term → List ResultRow → Type 0
ListsRows c t y shape f q rows = Lists (RowsOf c t y q (row_of c shape f q)) rows
