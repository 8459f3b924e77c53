-- The rows of a path are those that are listed.
use Rattle.std.proofs.Common.{List, [], ◌∷◌, ◌++◌}
use Rattle.std.specs.Prelude.{◌↔◌, Bool, true, false}
use Rattle.std.specs.List.{Contains}
use Rattle.shape_model.specs.Looks.{ByIn, ByOut, LookRow, PathLook, SomeLook, ThroughLook, directed, directed_all}
use Rattle.shape_model.specs.Paths.{Also, Alternative, Inverse, Last, OneOrMore, Path, Paths, Predicate, Sequence, ZeroOrMore, ZeroOrOne}
use Rattle.read_plans.specs.PathRows.{path_rows, some_rows, through_rows}
use Rattle.read_plans.proofs.Lists.{listed_both, listed_one, listed_reversed}

mutual
  pub path_listed : (p : Path) (reversed : Bool) (q : List Path) (row : LookRow) → Contains (path_rows reversed p q) row ↔ PathLook reversed p q row
  path_listed (Predicate p) false q row = listed_one (record { way = q; kind = ByOut p }) row
  path_listed (Predicate p) true q row = listed_one (record { way = q; kind = ByIn p }) row
  path_listed (Inverse p) false q row = path_listed p true q row
  path_listed (Inverse p) true q row = path_listed p false q row
  path_listed (Sequence ps) reversed q row = through_listed ps reversed q row
  path_listed (Alternative ps) reversed q row = some_listed ps reversed q row
  path_listed (ZeroOrMore p) reversed q row = path_listed p reversed (q ++ ZeroOrMore (directed reversed p) ∷ []) row
  path_listed (OneOrMore p) reversed q row = path_listed p reversed (q ++ ZeroOrMore (directed reversed p) ∷ []) row
  path_listed (ZeroOrOne p) reversed q row = path_listed p reversed q row

  pub through_listed : (ps : Paths) (reversed : Bool) (q : List Path) (row : LookRow) → Contains (through_rows reversed ps q) row ↔ ThroughLook reversed ps q row
  through_listed (Last p) reversed q row = path_listed p reversed q row
  through_listed (Also p ps) false q row =
      listed_both (path_rows false p q) (through_rows false ps (q ++ p ∷ [])) row (path_listed p false q row) (through_listed ps false (q ++ p ∷ []) row)
  through_listed (Also p ps) true q row =
      let w = q ++ directed_all true ps ∷ [] in
      listed_reversed (path_rows true p w) (through_rows true ps q) row (path_listed p true w row) (through_listed ps true q row)

  pub some_listed : (ps : Paths) (reversed : Bool) (q : List Path) (row : LookRow) → Contains (some_rows reversed ps q) row ↔ SomeLook reversed ps q row
  some_listed (Last p) reversed q row = path_listed p reversed q row
  some_listed (Also p ps) reversed q row = listed_both (path_rows reversed p q) (some_rows reversed ps q) row (path_listed p reversed q row) (some_listed ps reversed q row)
