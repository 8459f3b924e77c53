-- The node for which a block is refused, and what naming a block makes.
use Rattle.std.specs.Prelude.{◌≡◌, ◌+◌, ◌<◌, ◌≤◌, ◌⊎◌, ℕ, List, [], ◌∷◌, length, Option, Some, None}
use Rattle.std.proofs.Common.{get_or}
use Rattle.collections.specs.Ordered.{IsAscending}
use Rattle.rdf_model.specs.declared.ids.Ids.{Ids}
use Rattle.rdf_model.specs.declared.term.Term.{Term}
use Rattle.store_model.specs.declared.event.NameKind.{NameKind}
use Rattle.rdf_model.specs.Terms.{term_cmp}
use Rattle.store_model.specs.Nodes.{given_by, given_with, unknown_by}
use Rattle.term_dict.specs.Names.{AreNumbersOf, with_terms}
use Rattle.data_graph.specs.DataGraphs.{NamedGraph, with_names}
use Rattle.commit_core.specs.declared.naming.NamedTerms.{NamedTerms}

abbrev pub first_of : List Term → Option Term
first_of [] = None
first_of (t ∷ ts) = Some t

-- The terms of a block of this kind, named in a graph: the graph with their names, within its limit, the nodes that are given out
-- then, and the names.
pub record IsNaming (kind : NameKind) (graph : NamedGraph) (given terms : List Term) (n : NamedTerms) : Type 0 where
  pub graph_is : n.graph ≡ with_names graph terms
  pub fits : length (with_terms graph.terms terms) ≤ graph.limit + 2
  pub given_is : n.given ≡ given_by kind given terms
  pub names_are : n.names.terms ≡ n.graph.terms

-- naming the terms ps, in their order, does what naming the terms ts does
pub record AreNamedAlike (ts ps : List Term) : Type 0 where
  pub names : (named : List Term) → with_terms named ps ≡ with_terms named ts
  pub given : (given : List Term) → IsAscending term_cmp given → given_with given ps ≡ given_with given ts

-- the place is one that was met, or the next, after which one more was
abbrev pub IsMetAt : ℕ → ℕ → ℕ → Type 0
IsMetAt next place later = ((place < next) × (later ≡ next)) ⊎ ((place ≡ next) × (later ≡ next + 1))

-- the numbers at the places of a triple, in their order
abbrev pub part_numbers : List ℕ → Ids → List ℕ
part_numbers ns i = get_or ns i.subject 0 ∷ get_or ns i.predicate 0 ∷ get_or ns i.object 0 ∷ []

-- what naming a list gives: the terms of its triples are named, none stands in the way, and these are the numbers of all of them
pub record IsListNaming (kind : NameKind) (graph : NamedGraph) (given parts : List Term) (n : NamedTerms) (numbers : List ℕ) : Type 0 where
  pub naming : IsNaming kind graph given parts n
  pub known : unknown_by kind given parts ≡ []
  pub numbers_are : AreNumbersOf n.graph.terms parts numbers
