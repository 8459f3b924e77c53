-- The rows of the members of a sequence or an alternative, from a list of them.
use Rattle.std.specs.Prelude.{Bool, true, false, List, [], ◌∷◌, ◌++◌}
use Rattle.rdf_model.specs.declared.term.Term.{Term}
use Rattle.shape_model.specs.Looks.{LookKind, LookRow, ByIn, ByOut}
use Rattle.shape_model.specs.Paths.{Path, Inverse, Sequence}
use Rattle.path_ast.specs.PathReadings.{members}
use Rattle.read_plans.specs.PathRows.{path_rows}

abbrev pub predicate_kind_of : Bool → Term → LookKind
predicate_kind_of false p = ByOut p
predicate_kind_of true p = ByIn p

-- the way q, and then back along the paths, if there are some
abbrev pub back_way : List Path → List Path → List Path
back_way [] q = q
back_way (p ∷ ps) q = q ++ Inverse (Sequence (members p ps)) ∷ []

-- each after those before it
abbrev pub forward_rows : List Path → List Path → List LookRow
forward_rows [] q = []
forward_rows (p ∷ ps) q = path_rows false p q ++ forward_rows ps (q ++ p ∷ [])

-- each backwards, after those behind it
abbrev pub backward_rows : List Path → List Path → List LookRow
backward_rows [] q = []
backward_rows (p ∷ ps) q = path_rows true p (back_way ps q) ++ backward_rows ps q

-- each
abbrev pub each_rows : Bool → List Path → List Path → List LookRow
each_rows reversed [] q = []
each_rows reversed (p ∷ ps) q = path_rows reversed p q ++ each_rows reversed ps q
