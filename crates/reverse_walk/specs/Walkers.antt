-- The nodes from which walks lead to a node, by number.
use Rattle.std.specs.Prelude.{◌<◌, ℕ, true, List, length, map}
use Rattle.std.specs.List.{Contains}
use Rattle.std.specs.Ordering.{nat_cmp}
use Rattle.collections.specs.Listings.{IsListing}
use Rattle.rdf_model.specs.declared.term.Term.{Term}
use Rattle.rdf_model.specs.declared.ids.Ids.{Ids}
use Rattle.rdf_model.specs.declared.look.Look.{Look}
use Rattle.rdf_model.specs.Numbers.{term_at, graph_of}
use Rattle.shape_model.specs.Walks.{Walk}
use Rattle.shape_model.specs.NodeLooks.{PathReads}
use Rattle.path_ast.specs.declared.path.Path.{Path}
use Rattle.path_ast.specs.PathReadings.{path_of}
use Rattle.path_eval.specs.Naming.{IsBoundLook, look_of}
use Rattle.path_eval.specs.Relations.{Adds}

-- the numbers of just the nodes with a walk to x, each once, ascending; each such node has a number
pub record AreWalkers (terms : List Term) (ids : List Ids) (path : Path ℕ) (x : ℕ) (walkers : List ℕ) : Type 0 where
  pub listed : IsListing nat_cmp (λ n. (n < length terms) × Walk (graph_of terms ids) (path_of terms path) (term_at terms n) (term_at terms x)) walkers
  pub every : (v : Term) → Walk (graph_of terms ids) (path_of terms path) v (term_at terms x) → Contains (map (term_at terms) walkers) v

-- the numbers of just the nodes with a walk to one of the nodes, each once, ascending; each such node has a number
pub record AreWalkersToSome (terms : List Term) (ids : List Ids) (path : Path ℕ) (xs : List ℕ) (walkers : List ℕ) : Type 0 where
  pub listed : IsListing nat_cmp (λ n. (n < length terms) × ((x : ℕ) × Contains xs x × Walk (graph_of terms ids) (path_of terms path) (term_at terms n) (term_at terms x))) walkers
  pub every : (x : ℕ) (v : Term) → Contains xs x → Walk (graph_of terms ids) (path_of terms path) v (term_at terms x) → Contains (map (term_at terms) walkers) v

-- just the looks of the way back from x have been added; each of them has numbers
pub record AddsBackReads (terms : List Term) (ids : List Ids) (path : Path ℕ) (x : ℕ) (old new : List (Look ℕ)) : Type 0 where
  pub added : Adds old new (λ look. IsBoundLook (length terms) look × PathReads (graph_of terms ids) true (path_of terms path) (term_at terms x) (look_of terms look))
  pub every : (l : Look Term) → PathReads (graph_of terms ids) true (path_of terms path) (term_at terms x) l → Contains (map (look_of terms) new) l

-- just the looks of the ways back from the nodes have been added; each of them has numbers
pub record AddsBackReadsOfSome (terms : List Term) (ids : List Ids) (path : Path ℕ) (xs : List ℕ) (old new : List (Look ℕ)) : Type 0 where
  pub added : Adds old new (λ look. IsBoundLook (length terms) look × ((x : ℕ) × Contains xs x × PathReads (graph_of terms ids) true (path_of terms path) (term_at terms x) (look_of terms look)))
  pub every : (l : Look Term) → ((x : ℕ) × Contains xs x × PathReads (graph_of terms ids) true (path_of terms path) (term_at terms x) l) → Contains (map (look_of terms) new) l
