-- The rows of looks of a path as a list, each as often as it is counted: one for each predicate in the path.
use Rattle.std.specs.Prelude.{Bool, true, false, not, List, [], ◌∷◌, ◌++◌}
use Rattle.shape_model.specs.Looks.{LookRow, ByIn, ByOut, directed, directed_all}
use Rattle.shape_model.specs.Paths.{Path, Predicate, Inverse, Sequence, Alternative, ZeroOrMore, OneOrMore, ZeroOrOne, Paths, Last, Also}

-- the rows of a path that is walked (backwards, where reversed) after the way q
abbrev mutual
  pub path_rows : Bool → Path → List Path → List LookRow
  path_rows false (Predicate p) q = record { way = q; kind = ByOut p } ∷ []
  path_rows true (Predicate p) q = record { way = q; kind = ByIn p } ∷ []
  path_rows reversed (Inverse p) q = path_rows (not reversed) p q
  path_rows reversed (Sequence ps) q = through_rows reversed ps q
  path_rows reversed (Alternative ps) q = some_rows reversed ps q
  path_rows reversed (ZeroOrMore p) q = path_rows reversed p (q ++ ZeroOrMore (directed reversed p) ∷ [])
  path_rows reversed (OneOrMore p) q = path_rows reversed p (q ++ ZeroOrMore (directed reversed p) ∷ [])
  path_rows reversed (ZeroOrOne p) q = path_rows reversed p q

  -- each member after those before it; backwards, after those behind it
  pub through_rows : Bool → Paths → List Path → List LookRow
  through_rows reversed (Last p) q = path_rows reversed p q
  through_rows false (Also p ps) q = path_rows false p q ++ through_rows false ps (q ++ p ∷ [])
  through_rows true (Also p ps) q = path_rows true p (q ++ directed_all true ps ∷ []) ++ through_rows true ps q

  -- each member
  pub some_rows : Bool → Paths → List Path → List LookRow
  some_rows reversed (Last p) q = path_rows reversed p q
  some_rows reversed (Also p ps) q = path_rows reversed p q ++ some_rows reversed ps q
