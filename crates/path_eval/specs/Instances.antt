-- Whether a node is an instance of a class, by number.
use Rattle.std.specs.Prelude.{◌≡◌, ◌↔◌, ◌<◌, ℕ, Bool, List, length, map, IsTrue}
use Rattle.std.specs.Ordering.{nat_cmp}
use Rattle.collections.specs.Listings.{IsListing}
use Rattle.std.specs.List.{Contains}
use Rattle.rdf_model.specs.declared.term.Term.{Term}
use Rattle.rdf_model.specs.declared.ids.Ids.{Ids}
use Rattle.rdf_model.specs.declared.look.Look.{Look}
use Rattle.rdf_model.specs.Numbers.{term_at, graph_of, IsNumbering, AreNumbered}
use Rattle.shape_model.specs.Vocabulary.{rdf_type, sub_class_of}
use Rattle.shape_model.specs.Instances.{Instance, class_path}
use Rattle.shape_model.specs.NodeLooks.{PathReads}
use Rattle.path_eval.specs.declared.instances.ClassWords.{ClassWords}
use Rattle.path_eval.specs.Naming.{AddsLooks}

-- they are the numbers of rdf:type and rdfs:subClassOf
pub record AreClassWords (terms : List Term) (words : ClassWords) : Type 0 where
  pub types_bound : words.rdf_type < length terms
  pub types : term_at terms words.rdf_type ≡ rdf_type
  pub above_bound : words.sub_class_of < length terms
  pub above : term_at terms words.sub_class_of ≡ sub_class_of

abbrev pub IsInstanceAnswer : List Ids → ClassWords → ℕ → ℕ → Bool → Type 0
IsInstanceAnswer ids words node class answer = (terms : List Term) → IsNumbering terms → AreNumbered terms ids → AreClassWords terms words → node < length terms → class < length terms
    → IsTrue answer ↔ Instance (graph_of terms ids) (term_at terms node) (term_at terms class)

-- The instances are the numbers of just the nodes that are instances of the class, each once, ascending. Each such node
-- has a number.
pub record AreInstances (terms : List Term) (ids : List Ids) (class : ℕ) (instances : List ℕ) : Type 0 where
  pub listed : IsListing nat_cmp (λ n. (n < length terms) × Instance (graph_of terms ids) (term_at terms n) (term_at terms class)) instances
  pub every : (v : Term) → Instance (graph_of terms ids) v (term_at terms class) → Contains (map (term_at terms) instances) v

-- just the looks of the class path, or where reversed of the way back along it, have been added, and each of them has numbers
abbrev pub ClassReads : List Term → List Ids → Bool → ℕ → List (Look ℕ) → List (Look ℕ) → Type 0
ClassReads terms ids reversed node old new = AddsLooks terms (PathReads (graph_of terms ids) reversed class_path (term_at terms node)) old new

-- in whatever way the graph, the words and the node are numbered
abbrev pub Classed : List Ids → ClassWords → ℕ → (List Term → Type 0) → Type 0
Classed ids words node P = (terms : List Term) → IsNumbering terms → AreNumbered terms ids → AreClassWords terms words → node < length terms → P terms
