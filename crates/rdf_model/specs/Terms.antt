-- The order of terms and triples.
use Rattle.std.specs.Prelude.{ℕ, List, Option, Some, None}
use Rattle.std.specs.declared.cmp.Ordering.{Ordering}
use Rattle.std.specs.declared.cmp.Ordering.TheVariants.{Less, Equal, Greater}
use Rattle.std.specs.Ordering.{nat_cmp, ordering_then}
use Rattle.std.specs.Cmp.Lexicographic.{slice_cmp}
use Rattle.rdf_model.specs.declared.term.Term.{Term}
use Rattle.rdf_model.specs.declared.term.Term.TheVariants.{Blank, Iri, Literal}
use Rattle.rdf_model.specs.declared.triple.Triple.{Triple}

-- texts by their bytes
abbrev pub text_cmp : List ℕ → List ℕ → Ordering
text_cmp a b = slice_cmp nat_cmp a b

-- no tag stands before a tag
abbrev pub tag_cmp : Option (List ℕ) → Option (List ℕ) → Ordering
tag_cmp None None = Equal
tag_cmp None (Some t) = Less
tag_cmp (Some t) None = Greater
tag_cmp (Some t) (Some u) = text_cmp t u

-- blank nodes by session and number, then IRIs by bytes, then literals by lexical form, datatype and tag
abbrev pub term_cmp : Term → Term → Ordering
term_cmp (Blank s n) (Blank t m) = ordering_then (nat_cmp s t) (nat_cmp n m)
term_cmp (Blank s n) (Iri b) = Less
term_cmp (Blank s n) (Literal c d e) = Less
term_cmp (Iri a) (Blank t m) = Greater
term_cmp (Iri a) (Iri b) = text_cmp a b
term_cmp (Iri a) (Literal c d e) = Less
term_cmp (Literal c d e) (Blank t m) = Greater
term_cmp (Literal c d e) (Iri b) = Greater
term_cmp (Literal c d e) (Literal f g h) = ordering_then (text_cmp c f) (ordering_then (text_cmp d g) (tag_cmp e h))

-- by subject, predicate, object
abbrev pub triple_cmp : Triple → Triple → Ordering
triple_cmp a b = ordering_then (term_cmp a.subject b.subject) (ordering_then (term_cmp a.predicate b.predicate) (term_cmp a.object b.object))
