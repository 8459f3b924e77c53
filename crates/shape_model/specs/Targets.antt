-- Targets of a shape (SHACL 2.1.3).
use Rattle.std.specs.Prelude.{◌⊎◌, List}
use Rattle.rdf_model.specs.declared.term.Term.{Term}
use Rattle.rdf_model.specs.declared.triple.Triple.{Triple}
use Rattle.shape_model.specs.Vocabulary.{ShTargetNode, ShTargetClass, ShTargetSubjectsOf, ShTargetObjectsOf}
use Rattle.shape_model.specs.Triples.{Has}
use Rattle.shape_model.specs.Instances.{Instance}
use Rattle.shape_model.specs.Readings.{Reading, reading}

-- The node is a value of sh:targetNode (2.1.3.1), an instance of a sh:targetClass (2.1.3.2) or of the shape that is an
-- implicit class target (2.1.3.3), the subject (2.1.3.4) or the object (2.1.3.5) of a triple with such a predicate.
abbrev pub TargetOf : List Triple → Reading → Term → Term → Type 0
TargetOf g y shape f =
    y.has ShTargetNode f
    ⊎ ((c : Term) × y.has ShTargetClass c × Instance g f c)
    ⊎ (y.is_class × Instance g f shape)
    ⊎ ((p : Term) × y.has ShTargetSubjectsOf p × ((o : Term) × Has g f p o))
    ⊎ ((p : Term) × y.has ShTargetObjectsOf p × ((x : Term) × Has g x p f))

-- the shape declares some target
abbrev pub HasTarget : Reading → Type 0
HasTarget y =
    ((x : Term) × y.has ShTargetNode x)
    ⊎ ((x : Term) × y.has ShTargetClass x)
    ⊎ y.is_class
    ⊎ ((x : Term) × y.has ShTargetSubjectsOf x)
    ⊎ ((x : Term) × y.has ShTargetObjectsOf x)

-- the node is a target of the shape, by the triples of the shapes graph
abbrev pub Target : List Triple → List Triple → Term → Term → Type 0
Target g s shape f = TargetOf g (reading s shape) shape f
