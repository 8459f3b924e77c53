-- How deep paths are nested.
use Rattle.std.specs.Prelude.{◌+◌, ◌<◌, ◌≤◌, ℕ, max, List}
use Rattle.rdf_model.specs.declared.term.Term.{Term}
use Rattle.rdf_model.specs.declared.triple.Triple.{Triple}
use Rattle.shape_model.specs.Paths.{Path, Predicate, Inverse, Sequence, Alternative, ZeroOrMore, OneOrMore, ZeroOrOne, Paths, Last, Also}
use Rattle.shape_model.specs.ShapeSyntax.{PathOf}
use Rattle.shape_syntax.specs.PathNodes.{IsPath}

-- a predicate is at depth 0, any other path one deeper than its deepest member
abbrev mutual
  pub depth_of : Path → ℕ
  depth_of (Predicate p) = 0
  depth_of (Inverse p) = depth_of p + 1
  depth_of (Sequence ps) = deepest_of ps + 1
  depth_of (Alternative ps) = deepest_of ps + 1
  depth_of (ZeroOrMore p) = depth_of p + 1
  depth_of (OneOrMore p) = depth_of p + 1
  depth_of (ZeroOrOne p) = depth_of p + 1

  pub deepest_of : Paths → ℕ
  deepest_of (Last p) = depth_of p
  deepest_of (Also p ps) = max (depth_of p) (deepest_of ps)

-- the node stands for a path that is no deeper than this, or for one that is deeper
abbrev pub IsRead : List Triple → Term → ℕ → Path → Type 0
IsRead s n levels p = PathOf s n p × (depth_of p ≤ levels)

abbrev pub IsDeep : List Triple → Term → ℕ → Type 0
IsDeep s n levels = (p : Path) × PathOf s n p × (levels < depth_of p)

-- it stands for a path, and for none that is not deeper
abbrev pub IsTooDeep : List Triple → Term → ℕ → Type 0
IsTooDeep s n levels = IsPath s n × ((p : Path) → PathOf s n p → levels < depth_of p)
