-- Property paths (SHACL 2.3.1; SPARQL 1.1, 9.1).
use Rattle.rdf_model.specs.declared.term.Term.{Term}

mutual
  pub data Path : Type 0 where
    Predicate : Term → Path
    Inverse : Path → Path
    Sequence : Paths → Path
    Alternative : Paths → Path
    ZeroOrMore : Path → Path
    OneOrMore : Path → Path
    ZeroOrOne : Path → Path

  -- one path or more
  pub data Paths : Type 0 where
    Last : Path → Paths
    Also : Path → Paths → Paths

abbrev pub AreSeveral : Paths → Type 0
AreSeveral (Last p) = ⊥
AreSeveral (Also p ps) = Unit {0}
