-- What is kept of checking the changes of a graph: the touched pairs with their results.
use Rattle.std.specs.Prelude.{◌≡◌, ◌↔◌, List}
use Rattle.std.specs.List.{Contains}
use Rattle.collections.specs.Listings.{IsListing}
use Rattle.rdf_model.specs.declared.term.Term.{Term}
use Rattle.rdf_model.specs.declared.triple.Triple.{Triple}
use Rattle.rdf_model.specs.declared.change.Change.{Change}
use Rattle.rdf_model.specs.Graphs.{after}
use Rattle.shape_model.specs.Rows.{result_row_cmp}
use Rattle.shape_model.specs.Touching.{Touched}
use Rattle.shape_model.specs.declared.result_row.ResultRow.{ResultRow}
use Rattle.change_laws.specs.Pairs.{PairRow}

-- a pair with its results
pub record CheckedPair : Type 0 where
  pub shape : Term
  pub focus : Term
  pub rows : List ResultRow

-- the pair is among them
abbrev pub HasPair : List CheckedPair → Term → Term → Type 0
HasPair checked shape f = (c : CheckedPair) × Contains checked c × (c.shape ≡ shape) × (c.focus ≡ f)

-- They are just the pairs that the changes touch, each with its results after them: none where it is no target then.
pub record AreChecked (g s : List Triple) (net : List Change) (checked : List CheckedPair) : Type 0 where
  pub pairs : (shape f : Term) → HasPair checked shape f ↔ Touched g s net shape f
  pub rows : (c : CheckedPair) → Contains checked c → IsListing result_row_cmp (PairRow (after g net) s c.shape c.focus) c.rows

-- both graphs have the same triples
abbrev pub SameMembers : List Triple → List Triple → Type 0
SameMembers g h = (t : Triple) → Contains g t ↔ Contains h t
