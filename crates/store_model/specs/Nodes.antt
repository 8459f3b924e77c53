-- The blank nodes that a store has given out.
use Rattle.std.specs.Prelude.{ℕ, Bool, true, false, not, List, [], ◌∷◌, if◌then◌else◌}
use Rattle.std.specs.List.{filter}
use Rattle.rdf_model.specs.declared.term.Term.{Term}
use Rattle.rdf_model.specs.declared.term.Term.TheVariants.{Blank, Iri, Literal}
use Rattle.rdf_model.specs.Terms.{term_cmp}
use Rattle.collections.specs.Ordered.{with_item, has_item}
use Rattle.store_model.specs.declared.event.NameKind.{NameKind}
use Rattle.store_model.specs.declared.event.NameKind.TheVariants.{Fresh, Known, Attach}

abbrev pub is_blank : Term → Bool
is_blank (Blank session number) = true
is_blank (Iri a) = false
is_blank (Literal lexical datatype language) = false

-- a set of nodes with the blank nodes of some terms, each put into its place
abbrev pub given_with : List Term → List Term → List Term
given_with given [] = given
given_with given (t ∷ ts) = given_with (if is_blank t then with_item term_cmp t given else given) ts

-- the blank nodes of some terms that weren't given, as a set, so that the least is the first
abbrev pub not_given : List Term → List Term → List Term
not_given given ts = filter (λ t. not (has_item term_cmp t given)) (given_with [] ts)

-- the nodes that are given once terms of a block of this kind are named
abbrev pub given_by : NameKind → List Term → List Term → List Term
given_by Fresh given ts = given_with given ts
given_by Known given ts = given
given_by Attach given ts = given

-- the nodes for which a block of this kind is refused
abbrev pub unknown_by : NameKind → List Term → List Term → List Term
unknown_by Fresh given ts = []
unknown_by Known given ts = []
unknown_by Attach given ts = not_given given ts
