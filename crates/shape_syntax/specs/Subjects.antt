-- The subjects of a graph (RDF 1.1 Concepts 3.1).
use Rattle.std.specs.Prelude.{◌≡◌, List}
use Rattle.std.specs.List.{Contains}
use Rattle.rdf_model.specs.declared.term.Term.{Term}
use Rattle.rdf_model.specs.declared.triple.Triple.{Triple}

-- the node is the subject of a triple
abbrev pub IsSubject : List Triple → Term → Type 0
IsSubject s n = (t : Triple) × Contains s t × (t.subject ≡ n)
