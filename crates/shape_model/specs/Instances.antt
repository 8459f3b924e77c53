-- SHACL instances (SHACL 1.1, "SHACL Subclasses, SHACL Superclasses" and "SHACL Types, SHACL Instances").
use Rattle.std.specs.Prelude.{List}
use Rattle.rdf_model.specs.declared.term.Term.{Term}
use Rattle.rdf_model.specs.declared.triple.Triple.{Triple}
use Rattle.shape_model.specs.Vocabulary.{rdf_type, sub_class_of}
use Rattle.shape_model.specs.Triples.{Has}
use Rattle.shape_model.specs.Paths.{Path, Predicate, Sequence, ZeroOrMore, Last, Also}
use Rattle.shape_model.specs.Walks.{Chain}

-- a value of rdf:type at n is c, or a chain of rdfs:subClassOf joins it to c
abbrev pub Instance : List Triple → Term → Term → Type 0
Instance g n c = (t : Term) × Has g n rdf_type t × ((zs : List Term) × Chain (λ a b. Has g a sub_class_of b) t zs c)

-- rdf:type/rdfs:subClassOf*, along which a node walks to just the classes that it is an instance of
abbrev pub class_path : Path
class_path = Sequence (Also (Predicate rdf_type) (Last (ZeroOrMore (Predicate sub_class_of))))
