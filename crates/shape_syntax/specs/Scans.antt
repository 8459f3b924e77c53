-- What a scan of a graph finds.
use Rattle.std.specs.Prelude.{◌≡◌, ◌≢◌, ◌⊎◌, List}
use Rattle.std.specs.List.{Contains}
use Rattle.rdf_model.specs.declared.term.Term.{Term}
use Rattle.rdf_model.specs.declared.triple.Triple.{Triple}
use Rattle.shape_model.specs.Triples.{Has, IsMember}
use Rattle.shape_model.specs.Vocabulary.{rdf_type, sub_class_of}

-- a triple of the graph with a value of the predicate at the node
abbrev pub IsValueTriple : List Triple → Term → Term → Triple → Type 0
IsValueTriple g n p t = Contains g t × (t.subject ≡ n) × (t.predicate ≡ p)

-- the triple has a value of the predicate at the node
abbrev pub IsAt : Term → Term → Triple → Type 0
IsAt n p t = (t.subject ≡ n) × (t.predicate ≡ p)

-- the other triple has a different value of the triple's predicate at its subject
abbrev pub IsAnotherValue : Triple → Triple → Type 0
IsAnotherValue t other = (other.subject ≡ t.subject) × (other.predicate ≡ t.predicate) × (t.object ≢ other.object)

-- the triple's subject has another value of its predicate
abbrev pub HasAnotherValue : List Triple → Triple → Type 0
HasAnotherValue g t = (v : Term) × Has g t.subject t.predicate v × (t.object ≢ v)

-- a value of rdf:type at the node, or a value of rdfs:subClassOf at one of the classes
abbrev pub IsNextClass : List Triple → Term → List Term → Term → Type 0
IsNextClass g n classes c = Has g n rdf_type c ⊎ ((a : Term) × IsMember classes a × Has g a sub_class_of c)

-- the triple leads from the node, or from one of the classes, to a class
abbrev pub LeadsOn : Term → List Term → Triple → Type 0
LeadsOn n classes t = ((t.predicate ≡ rdf_type) × (t.subject ≡ n)) ⊎ ((t.predicate ≡ sub_class_of) × IsMember classes t.subject)
