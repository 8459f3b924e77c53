use Rattle.triple_table.proofs.Places.{grown_twice}
use Rattle.file_validation.proofs.NamedTriples.{class_words}
use Rattle.file_validation.proofs.naming.add_words.Goals as goal

pub returns-clause-grown : goal.returns-clause-grown
returns-clause-grown c = grown_twice c.args.names.now c.add_iri.new.names c.add_iri-2.new.names c.in_ok-rdf_type.ensures.grown c.in_ok-sub_class_of.ensures.grown

pub returns-clause-words : goal.returns-clause-words
returns-clause-words c = class_words c.add_iri.new.names c.add_iri-2.new.names c.in_ok-rdf_type.rdf_type c.in_ok-sub_class_of.sub_class_of c.in_ok-sub_class_of.ensures.grown c.in_ok-rdf_type.ensures.number c.in_ok-sub_class_of.ensures.number
