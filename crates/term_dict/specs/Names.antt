-- What naming makes of a list of named terms.
use Rattle.std.specs.Prelude.{◌≡◌, ◌<◌, ℕ, List, [], ◌∷◌, ◌++◌, length, codes, if◌then◌else◌}
use Rattle.std.specs.List.{AllZip}
use Rattle.rdf_model.specs.declared.term.Term.{Term}
use Rattle.rdf_model.specs.declared.term.Term.TheVariants.{Iri}
use Rattle.rdf_model.specs.Terms.{term_cmp}
use Rattle.rdf_model.specs.Numbers.{term_at}
use Rattle.collections.specs.Ordered.{has_item}

-- rdf:type (RDFS 3.3) and rdfs:subClassOf (RDFS 3.4), which have the numbers 0 and 1
unfoldable pub first_terms : List Term
first_terms = Iri (codes "http://www.w3.org/1999/02/22-rdf-syntax-ns#type") ∷ Iri (codes "http://www.w3.org/2000/01/rdf-schema#subClassOf") ∷ []

-- the terms with one more, at the end where it is new
abbrev pub with_term : List Term → Term → List Term
with_term terms t = if has_item term_cmp t terms then terms else terms ++ t ∷ []

-- the terms with each of a list
abbrev pub with_terms : List Term → List Term → List Term
with_terms terms [] = terms
with_terms terms (t ∷ ts) = with_terms (with_term terms t) ts

-- the number is the term's
pub record IsNumberOf (terms : List Term) (t : Term) (n : ℕ) : Type 0 where
  pub within : n < length terms
  pub is : term_at terms n ≡ t

-- the numbers are those of the terms, in their order
abbrev pub AreNumbersOf : List Term → List Term → List ℕ → Type 0
AreNumbersOf terms ts ns = AllZip (IsNumberOf terms) ts ns

-- what a dictionary is to contracts: its terms by their numbers, and how many it names beside the first two
pub record Named : Type 0 where
  pub terms : List Term
  pub limit : ℕ

abbrev pub named_with : Named → List Term → Named
named_with d ts = record { terms = with_terms d.terms ts; limit = d.limit }
