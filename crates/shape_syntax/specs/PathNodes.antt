-- The nodes of a graph that stand for paths (SHACL 2.3.1).
use Rattle.std.specs.Prelude.{◌↔◌, List}
use Rattle.std.specs.List.{Contains}
use Rattle.rdf_model.specs.declared.term.Term.{Term}
use Rattle.rdf_model.specs.declared.triple.Triple.{Triple}
use Rattle.shape_model.specs.Triples.{IsBlank}
use Rattle.shape_model.specs.Paths.{Path}
use Rattle.shape_model.specs.ShapeSyntax.{PathOf}

-- the node stands for a path
abbrev pub IsPath : List Triple → Term → Type 0
IsPath s n = (p : Path) × PathOf s n p

-- the blank nodes that do
abbrev pub ArePathNodes : List Triple → List Term → Type 0
ArePathNodes s nodes = (n : Term) → Contains nodes n ↔ (IsBlank n × IsPath s n)
