-- Rows of looks whose terms are among some terms.
use Rattle.std.specs.Prelude.{List}
use Rattle.std.specs.List.{AllByRecursion}
use Rattle.rdf_model.specs.declared.term.Term.{Term}
use Rattle.shape_model.specs.Looks.{LookKind, LookRow, ByIn, ByOut, ByOutAny}
use Rattle.shape_model.specs.Vocabulary.{rdf_type, sub_class_of}
use Rattle.path_ast.specs.PathReadings.{HoldsOfEach, IsNamed}
use Rattle.shape_ast.specs.declared.shape.Shape.{Shape}
use Rattle.shape_ast.specs.Readings.{AreNamed}

-- something holds of each term of the row
abbrev pub HoldsOfKind : (Term → Type 0) → LookKind → Type 0
HoldsOfKind Q (ByOut p) = Q p
HoldsOfKind Q (ByIn p) = Q p
HoldsOfKind Q ByOutAny = Unit {0}

pub record HoldsOfRow (Q : Term → Type 0) (row : LookRow) : Type 0 where
  pub way : AllByRecursion (HoldsOfEach Q) row.way
  pub kind : HoldsOfKind Q row.kind

-- Wherever each term of the shapes is among some terms, with rdf:type and rdfs:subClassOf, each term of the rows is.
abbrev pub AreNamedWith : List (Shape Term) → List LookRow → Type 0
AreNamedWith shapes rows = (names : List Term) → AreNamed names shapes → IsNamed names rdf_type → IsNamed names sub_class_of → AllByRecursion (HoldsOfRow (IsNamed names)) rows
