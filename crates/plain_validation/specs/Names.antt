-- The terms of triples as names.
use Rattle.std.specs.Prelude.{List, [], ◌∷◌}
use Rattle.rdf_model.specs.declared.term.Term.{Term}
use Rattle.rdf_model.specs.declared.triple.Triple.{Triple}
use Rattle.rdf_model.specs.Terms.{term_cmp}
use Rattle.collections.specs.Ordered.{with_item}
use Rattle.shape_model.specs.Vocabulary.{rdf_type, sub_class_of}

-- the names with the three terms of a triple, and with those of each
abbrev pub with_triple : List Term → Triple → List Term
with_triple names t = with_item term_cmp t.object (with_item term_cmp t.predicate (with_item term_cmp t.subject names))

abbrev pub with_terms : List Term → List Triple → List Term
with_terms names [] = names
with_terms names (t ∷ ts) = with_terms (with_triple names t) ts

-- the words by which a node is an instance of a class, in their order
abbrev pub class_names : List Term
class_names = with_item term_cmp sub_class_of (with_item term_cmp rdf_type [])
