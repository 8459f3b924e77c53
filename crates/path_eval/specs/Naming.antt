-- What a walk along a path of numbers finds and reads, with each number read as the term that it has.
use Rattle.std.specs.Prelude.{◌<◌, ℕ, Bool, List, length, map}
use Rattle.std.specs.List.{Contains}
use Rattle.std.specs.Ordering.{nat_cmp}
use Rattle.collections.specs.Listings.{IsListing}
use Rattle.rdf_model.specs.declared.term.Term.{Term}
use Rattle.rdf_model.specs.declared.ids.Ids.{Ids}
use Rattle.rdf_model.specs.declared.look.Look.{Look}
use Rattle.rdf_model.specs.declared.look.Look.TheVariants as looks
use Rattle.rdf_model.specs.declared.look.Look.TheVariants.{Out, In, OutAny}
use Rattle.rdf_model.specs.Numbers.{term_at, graph_of, IsNumbering, AreNumbered}
use Rattle.shape_model.specs.Walks.{Walk}
use Rattle.shape_model.specs.Looks.{directed}
use Rattle.shape_model.specs.NodeLooks.{PathReads}
use Rattle.path_ast.specs.declared.path.Path.{Path}
use Rattle.path_ast.specs.PathReadings.{IsBoundPath, path_of}
use Rattle.path_eval.specs.Relations.{Adds}

-- the look of terms
abbrev pub look_of : List Term → Look ℕ → Look Term
look_of terms (Out x p) = looks.Out (term_at terms x) (term_at terms p)
look_of terms (In p x) = looks.In (term_at terms p) (term_at terms x)
look_of terms (OutAny x) = looks.OutAny (term_at terms x)

-- each of its numbers has a term, of so many
abbrev pub IsBoundLook : ℕ → Look ℕ → Type 0
IsBoundLook n (Out x p) = (x < n) × (p < n)
IsBoundLook n (In p x) = (p < n) × (x < n)
IsBoundLook n (OutAny x) = x < n

-- The values are the numbers of just the nodes to which the node walks along the path, or where reversed along the way back:
-- each once, ascending. Each such node has a number.
pub record AreValues (terms : List Term) (ids : List Ids) (reversed : Bool) (path : Path ℕ) (x : ℕ) (values : List ℕ) : Type 0 where
  pub listed : IsListing nat_cmp (λ n. (n < length terms) × Walk (graph_of terms ids) (directed reversed (path_of terms path)) (term_at terms x) (term_at terms n)) values
  pub every : (v : Term) → Walk (graph_of terms ids) (directed reversed (path_of terms path)) (term_at terms x) v → Contains (map (term_at terms) values) v

-- Just the looks of which P holds have been added. Each such look has numbers.
pub record AddsLooks (terms : List Term) (P : Look Term → Type 0) (old new : List (Look ℕ)) : Type 0 where
  pub added : Adds old new (λ look. IsBoundLook (length terms) look × P (look_of terms look))
  pub every : (l : Look Term) → P l → Contains (map (look_of terms) new) l

-- just those of walking so
abbrev pub AddsReads : List Term → List Ids → Bool → Path ℕ → ℕ → List (Look ℕ) → List (Look ℕ) → Type 0
AddsReads terms ids reversed path x old new = AddsLooks terms (PathReads (graph_of terms ids) reversed (path_of terms path) (term_at terms x)) old new

-- in whatever way the graph, the path and the node are numbered
abbrev pub Numbered : List Ids → Path ℕ → ℕ → (List Term → Type 0) → Type 0
Numbered ids path x P = (terms : List Term) → IsNumbering terms → AreNumbered terms ids → IsBoundPath (length terms) path → x < length terms → P terms

-- in whatever way the graph, the path and some nodes are numbered
abbrev pub NumberedEach : List Ids → Path ℕ → List ℕ → (List Term → Type 0) → Type 0
NumberedEach ids path xs P = (terms : List Term) → IsNumbering terms → AreNumbered terms ids → IsBoundPath (length terms) path → ((x : ℕ) → Contains xs x → x < length terms) → P terms

-- the values are the numbers of just the nodes to which one of the nodes walks: each once, ascending; each such node has a number
pub record AreValuesOfSome (terms : List Term) (ids : List Ids) (reversed : Bool) (path : Path ℕ) (xs values : List ℕ) : Type 0 where
  pub listed : IsListing nat_cmp (λ n. (n < length terms) × ((x : ℕ) × Contains xs x × Walk (graph_of terms ids) (directed reversed (path_of terms path)) (term_at terms x) (term_at terms n))) values
  pub every : (x : ℕ) (v : Term) → Contains xs x → Walk (graph_of terms ids) (directed reversed (path_of terms path)) (term_at terms x) v → Contains (map (term_at terms) values) v

-- just the looks of walking so from one of the nodes have been added
abbrev pub AddsReadsOfSome : List Term → List Ids → Bool → Path ℕ → List ℕ → List (Look ℕ) → List (Look ℕ) → Type 0
AddsReadsOfSome terms ids reversed path xs old new = AddsLooks terms (λ l. (x : ℕ) × Contains xs x × PathReads (graph_of terms ids) reversed (path_of terms path) (term_at terms x) l) old new
