-- What holds of each predicate of the path of SHACL holds of each of the compiled path that reads so.
use Rattle.std.proofs.Common.{List, [], ◌∷◌}
use Rattle.rdf_model.specs.declared.term.Term.{Term}
use Rattle.shape_model.specs.Paths as defined
use Rattle.path_ast.specs.declared.path.Path.{Path, Predicate, Inverse', Sequence', Alternative', ZeroOrMore', OneOrMore', ZeroOrOne', Row_of-Path, end_of-Path, more_of-Path}
use Rattle.path_ast.specs.PathReadings.{HasEach, HoldsOfAll, HoldsOfEach, RowHasEach, defined_path, members, read_row}

abbrev AllHold : (Term → Type 0) → List defined.Path → Type 0
AllHold Q [] = Unit {0}
AllHold Q (p ∷ ps) = HoldsOfEach Q p × AllHold Q ps

apart : (Q : Term → Type 0) (p : defined.Path) (ps : List defined.Path) → HoldsOfAll Q (members p ps) → HoldsOfEach Q p × AllHold Q ps
apart Q p [] h = (h, tt)
apart Q p (q ∷ qs) h = (h.0, apart Q q qs h.1)

mutual
  pub each_named : (Q : Term → Type 0) (p : Path Term) → HoldsOfEach Q (defined_path p) → HasEach Q p
  each_named Q (Predicate p) h = h
  each_named Q (Inverse' _ p) h = each_named Q p h
  each_named Q (Sequence' _ p _ ps) h = let k = apart Q (defined_path p) (read_row (λ t. t) ps) h in (each_named Q p k.0, row_named Q ps k.1)
  each_named Q (Alternative' _ p _ ps) h = let k = apart Q (defined_path p) (read_row (λ t. t) ps) h in (each_named Q p k.0, row_named Q ps k.1)
  each_named Q (ZeroOrMore' _ p) h = each_named Q p h
  each_named Q (OneOrMore' _ p) h = each_named Q p h
  each_named Q (ZeroOrOne' _ p) h = each_named Q p h

  row_named : (Q : Term → Type 0) → {m : _} → (ps : Row_of-Path Term m) → AllHold Q (read_row (λ t. t) ps) → RowHasEach Q ps
  row_named Q end_of-Path h = tt
  row_named Q (more_of-Path p ps) h = (each_named Q p h.0, row_named Q ps h.1)
