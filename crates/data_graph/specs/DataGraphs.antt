-- A data graph with numbers for its terms.
use Rattle.std.specs.Prelude.{◌↔◌, ℕ, List, []}
use Rattle.collections.specs.Ordered.{IsAscending}
use Rattle.rdf_model.specs.Terms.{triple_cmp}
use Rattle.std.specs.List.{All, Contains}
use Rattle.rdf_model.specs.declared.change.Change.{Change}
use Rattle.rdf_model.specs.declared.ids.Ids.{Ids}
use Rattle.rdf_model.specs.declared.term.Term.{Term}
use Rattle.rdf_model.specs.declared.triple.Triple.{Triple}
use Rattle.rdf_model.specs.Graphs.{after, with_each}
use Rattle.rdf_model.specs.Numbers.{AreNumbered, graph_of}
use Rattle.store_model.specs.Store.{changed_triple}
use Rattle.path_eval.specs.Instances.{AreClassWords}
use Rattle.term_dict.specs.Names.{Named, with_terms}
use Rattle.parallel_validate.specs.Named.{IsNamedTriple}

-- the triples of numbers, each put into its place
abbrev pub triples_at : List Term → List Ids → List Triple
triples_at terms ids = with_each [] (graph_of terms ids)

-- what a data graph is to contracts: its triples, the triples of its shapes graph, the terms by their numbers, and how many
-- may be named beside the first two
pub record NamedGraph : Type 0 where
  pub triples : List Triple
  pub shapes : List Triple
  pub terms : List Term
  pub limit : ℕ

abbrev pub names_of : NamedGraph → Named
names_of g = record { terms = g.terms; limit = g.limit }

-- the graph where more terms are named, the graph after changes, and the graph under other shapes
abbrev pub with_names : NamedGraph → List Term → NamedGraph
with_names g ts = record { triples = g.triples; shapes = g.shapes; terms = with_terms g.terms ts; limit = g.limit }

abbrev pub with_changes : NamedGraph → List Change → NamedGraph
with_changes g net = record { triples = after g.triples net; shapes = g.shapes; terms = g.terms; limit = g.limit }

abbrev pub with_shapes : NamedGraph → List Triple → NamedGraph
with_shapes g shapes = record { triples = g.triples; shapes = shapes; terms = g.terms; limit = g.limit }

-- rdf:type and rdfs:subClassOf have the numbers 0 and 1
abbrev pub HaveClassWords : List Term → Type 0
HaveClassWords terms = AreClassWords terms (record { rdf_type = 0; sub_class_of = 1 })

-- each number of the triples has a term, and read as terms they have just the members of the graph
pub record IsIndexOf (terms : List Term) (ids : List Ids) (g : List Triple) : Type 0 where
  pub numbered : AreNumbered terms ids
  pub members : (t : Triple) → Contains (graph_of terms ids) t ↔ Contains g t

-- the terms of the triples that are added or removed are named
abbrev pub AreNamedChanges : List Term → List Change → Type 0
AreNamedChanges terms net = All (λ c. IsNamedTriple terms (changed_triple c)) net

-- after changes the numbers later are the index of each graph after them whose index the numbers ids were
abbrev pub KeepsIndex : List Term → List Ids → List Change → List Ids → Type 0
KeepsIndex terms ids net later = (g : List Triple) → IsAscending triple_cmp g → IsIndexOf terms ids g → IsIndexOf terms later (after g net)
