-- What the text of a path means that is found by the triples.
use Rattle.std.specs.Prelude.{◌≡◌, ◌<◌, List}
use Rattle.rdf_model.specs.declared.term.Term.{Term}
use Rattle.rdf_model.specs.declared.triple.Triple.{Triple}
use Rattle.shape_model.specs.Limits.{levels_limit}
use Rattle.shape_model.specs.Paths.{Path}
use Rattle.shape_model.specs.ShapeSyntax.{HasProperty, IsShape, PathOf}
use Rattle.shape_model.specs.Vocabulary.{ShPath}
use Rattle.shape_syntax.specs.PathDepth.{depth_of}
use Rattle.shape_rules.specs.Broken.{IsWellFormed}
use Rattle.report_writer.specs.GraphPaths.{path_text_at}
use Rattle.report_writer.specs.PathTexts.{path_text}

-- a node has the text of the path that it stands for (SHACL 2.3.1), where that is nested less deep than the limit
abbrev pub PathTextLaw : Type 0
PathTextLaw = (s : List Triple) (n : Term) (p : Path) → PathOf s n p → depth_of p < levels_limit → path_text_at levels_limit s n ≡ path_text p

-- so it is of the path of each shape of a well-formed graph
abbrev pub ShapePathLaw : Type 0
ShapePathLaw = (s : List Triple) → IsWellFormed s → (shape n : Term) (p : Path) → IsShape s shape → HasProperty s shape ShPath n → PathOf s n p → path_text_at levels_limit s n ≡ path_text p
