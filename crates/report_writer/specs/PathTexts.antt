-- The text of a path (SHACL 2.3.1): one object of a statement in Turtle, with single spaces.
use Rattle.std.specs.Prelude.{ℕ, List, ◌++◌, codes, Option, Some, None, [], ◌∷◌}
use Rattle.rdf_model.specs.NTriples.{term_text}
use Rattle.shape_model.specs.Paths.{Path, Predicate, Inverse, Sequence, Alternative, ZeroOrMore, OneOrMore, ZeroOrOne, Paths, Last, Also}

-- a blank node with one property of SHACL
abbrev pub node_text : List ℕ → List ℕ → List ℕ
node_text property object = codes "[ " ++ property ++ codes " " ++ object ++ codes " ]"

-- a list
abbrev pub list_text : List ℕ → List ℕ
list_text members = codes "( " ++ members ++ codes " )"

abbrev mutual
  pub path_text : Path → List ℕ
  path_text (Predicate p) = term_text p
  path_text (Inverse p) = node_text (codes "sh:inversePath") (path_text p)
  path_text (Sequence ps) = list_text (members_text ps)
  path_text (Alternative ps) = node_text (codes "sh:alternativePath") (list_text (members_text ps))
  path_text (ZeroOrMore p) = node_text (codes "sh:zeroOrMorePath") (path_text p)
  path_text (OneOrMore p) = node_text (codes "sh:oneOrMorePath") (path_text p)
  path_text (ZeroOrOne p) = node_text (codes "sh:zeroOrOnePath") (path_text p)

  pub members_text : Paths → List ℕ
  members_text (Last p) = path_text p
  members_text (Also p ps) = path_text p ++ codes " " ++ members_text ps

-- the path of a property shape; a node shape has none
abbrev pub optional_text : Option Path → List (List ℕ)
optional_text None = []
optional_text (Some p) = path_text p ∷ []
