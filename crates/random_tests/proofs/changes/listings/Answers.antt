use Rattle.std.proofs.Common.{◌∙◌, List, sym, subst}
use Rattle.rdf_model.specs.declared.term.Term.{Term}
use Rattle.rdf_model.specs.declared.triple.Triple.{Triple}
use Rattle.shape_model.specs.Vocabulary.{rdf_type, sub_class_of}
use Rattle.path_ast.specs.PathReadings.{IsNamed}
use Rattle.parallel_validate.specs.Named.{AreNamedTriples}
use Rattle.random_tests.proofs.changes.listings.Goals as goal

pub class_words-requires : goal.class_words-requires
class_words-requires c = subst (λ (names : List Term). IsNamed names rdf_type × IsNamed names sub_class_of) (sym (c.from_terms-names.ensures ∙ c.from_vec.ensures)) c.in_ok-names.ensures.words

pub drawn_changes-requires : goal.drawn_changes-requires
drawn_changes-requires c = subst (λ (names : List Term). AreNamedTriples names c.args.all.now) (sym (c.from_terms-names.ensures ∙ c.from_vec.ensures)) c.in_ok-names.ensures.graph

pub listings_in-requires-clause-shapes : goal.listings_in-requires-clause-shapes
listings_in-requires-clause-shapes c =
    let named = subst (λ (ts : List Triple). AreNamedTriples c.in_ok-names.names.items ts) c.triples.ensures c.in_ok-names.ensures.shapes in
    subst (λ (names : List Term). AreNamedTriples names c.args.shapes.now) (sym (c.from_terms-names.ensures ∙ c.from_vec.ensures)) named
