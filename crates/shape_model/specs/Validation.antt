-- Validation of a data graph by a shapes graph (SHACL 3.4).
use Rattle.std.specs.Prelude.{ℕ, zero, suc, List, length}
use Rattle.rdf_model.specs.declared.term.Term.{Term}
use Rattle.rdf_model.specs.declared.triple.Triple.{Triple}
use Rattle.shape_model.specs.declared.result_row.ResultRow.{ResultRow}
use Rattle.shape_model.specs.Triples.{Has}
use Rattle.shape_model.specs.Instances.{Instance}
use Rattle.shape_model.specs.Readings.{Reading, reading, ValueNode}
use Rattle.shape_model.specs.Rows.{result_row_cmp}
use Rattle.collections.specs.Listings.{IsListing}
use Rattle.shape_model.specs.Targets.{Target}
use Rattle.shape_model.specs.Components.{Surroundings, AtIn}

-- what a data graph holds for a shape at a focus node, when the shapes that it refers to give these results
abbrev pub surroundings : (Term → Term → ResultRow → Type 0) → List Triple → Reading → Term → Surroundings
surroundings row g y f = record { value_node = ValueNode g y f; instance = Instance g; focus_value = Has g f; triple = Has g; row = row }

-- the results of a shape at a focus node, through chains of fewer references than this number
abbrev pub AtDepth : ℕ → List Triple → (Term → Reading) → Term → Term → ResultRow → Type 0
AtDepth zero g readings shape f r = ⊥
AtDepth (suc n) g readings shape f r = AtIn (surroundings (AtDepth n g readings) g (readings shape) f) (readings shape) shape f r

-- The shape gives the result at the focus node (SHACL 3.4). A chain of references that is no circle has no more of
-- them than the shapes graph has triples.
abbrev pub At : List Triple → List Triple → Term → Term → ResultRow → Type 0
At g s shape f r = AtDepth (suc (length s)) g (reading s) shape f r

-- the focus node conforms to the shape (SHACL 3.5)
abbrev pub Conforms : List Triple → List Triple → Term → Term → Type 0
Conforms g s shape f = (r : ResultRow) → At g s shape f r → ⊥

-- a result of validating the data graph: some shape gives it at one of its targets (SHACL 3.4)
abbrev pub IsResult : List Triple → List Triple → ResultRow → Type 0
IsResult g s r = (shape : Term) × (f : Term) × Target g s shape f × At g s shape f r

-- the data graph conforms to the shapes graph (SHACL 3.5, 3.6.1.1)
abbrev pub NoResult : List Triple → List Triple → Type 0
NoResult g s = (r : ResultRow) → IsResult g s r → ⊥

-- the results of the validation report (SHACL 3.6), each once, in the order of results
abbrev pub Listing : List Triple → List Triple → List ResultRow → Type 0
Listing g s rows = IsListing result_row_cmp (IsResult g s) rows
