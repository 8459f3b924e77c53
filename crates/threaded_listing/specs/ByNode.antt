-- When nodes have their results of a shape, in their order.
use Rattle.std.specs.Prelude.{◌≡◌, ℕ, List}
use Rattle.std.specs.List.{AllZip}
use Rattle.rdf_model.specs.declared.term.Term.{Term}
use Rattle.rdf_model.specs.declared.ids.Ids.{Ids}
use Rattle.shape_ast.specs.declared.shape.Shape.{Shape}
use Rattle.shape_eval.specs.Results.{ListsResults}
use Rattle.threaded_listing.specs.declared.visit.NodeRows.{NodeRows}

-- it is the node n, with its results of the shape at the place k (SHACL 3.4)
abbrev pub HasResults : List Term → List Ids → List (Shape ℕ) → ℕ → ℕ → NodeRows → Type 0
HasResults terms ids shapes k n found = (found.node ≡ n) × ListsResults terms ids shapes k n found.rows

-- so are all of them the nodes in turn
abbrev pub HaveResults : List Term → List Ids → List (Shape ℕ) → ℕ → List ℕ → List NodeRows → Type 0
HaveResults terms ids shapes k nodes found = AllZip (HasResults terms ids shapes k) nodes found
