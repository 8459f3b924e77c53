-- What a shapes graph declares for the report of a shape's results (SHACL 2.1.4 and 2.1.5).
use Rattle.std.specs.Prelude.{◌&&◌, List, [], ◌∷◌, Bool, codes, if◌then◌else◌}
use Rattle.collections.specs.Ordered.{with_item}
use Rattle.rdf_model.specs.declared.term.Term.{Term}
use Rattle.rdf_model.specs.declared.triple.Triple.{Triple}
use Rattle.rdf_model.specs.Matching.{same_term}
use Rattle.rdf_model.specs.Terms.{term_cmp}
use Rattle.shape_model.specs.Vocabulary.{sh}

-- the triple is a value of p at the node
abbrev pub is_statement_of : Term → Term → Triple → Bool
is_statement_of n p t = same_term n t.subject && same_term p t.predicate

-- the values of p at the node, each once, in the order of terms, whatever the order of the triples
abbrev pub values_of : List Triple → Term → Term → List Term
values_of [] n p = []
values_of (t ∷ s) n p = if is_statement_of n p t then with_item term_cmp t.object (values_of s n p) else values_of s n p

abbrev pub first_or : Term → List Term → Term
first_or t [] = t
first_or t (x ∷ xs) = x

-- the severity of the shape's results, sh:Violation where it declares none (SHACL 2.1.4, 3.6.2.4)
abbrev pub severity_of : List Triple → Term → Term
severity_of s n = first_or (sh (codes "Violation")) (values_of s n (sh (codes "severity")))

-- the messages of the shape (SHACL 2.1.5, 3.6.2.7)
abbrev pub messages_of : List Triple → Term → List Term
messages_of s n = values_of s n (sh (codes "message"))
