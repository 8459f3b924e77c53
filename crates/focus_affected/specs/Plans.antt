-- Rows of looks by number, as the rows that they are.
use Rattle.std.specs.Prelude.{◌≡◌, ◌<◌, ◌==◌, ℕ, List, [], ◌∷◌, map, Option, Some, None, if◌then◌else◌, MatchOption}
use Rattle.std.specs.List.{All}
use Rattle.rdf_model.specs.declared.term.Term.{Term}
use Rattle.rdf_model.specs.declared.ids.Ids.{Ids}
use Rattle.rdf_model.specs.Numbers.{term_at}
use Rattle.shape_model.specs.Looks.{LookKind, LookRow, ByIn, ByOut, ByOutAny}
use Rattle.shape_model.specs.Paths.{Path as DefinedPath}
use Rattle.path_ast.specs.declared.path.Path.{Path, Sequence'}
use Rattle.path_ast.specs.PathReadings.{IsBoundOptional, path_of, read_row}
use Rattle.focus_affected.specs.declared.plan.NumberedKind.{NumberedKind}
use Rattle.focus_affected.specs.declared.plan.NumberedKind.TheVariants.{Out, In, OutAny}
use Rattle.focus_affected.specs.declared.plan.NumberedLook.{NumberedLook}
use Rattle.focus_affected.specs.declared.plan.ShapePlan.{ShapePlan}

-- the members of a sequence, one after another; any other path by itself
abbrev pub way_of : List Term → Option (Path ℕ) → List DefinedPath
way_of terms None = []
way_of terms (Some (Sequence' _ p _ ps)) = path_of terms p ∷ read_row (term_at terms) ps
way_of terms (Some path) = path_of terms path ∷ []

abbrev pub kind_of : List Term → NumberedKind → LookKind
kind_of terms (Out p) = ByOut (term_at terms p)
kind_of terms (In p) = ByIn (term_at terms p)
kind_of terms OutAny = ByOutAny

abbrev pub row_of : List Term → NumberedLook → LookRow
row_of terms look = record { way = way_of terms look.way; kind = kind_of terms look.kind }

-- the node at which what is asked matches the triple
abbrev pub node_in : NumberedKind → Ids → Option ℕ
node_in (Out p) i = if p == i.predicate then Some i.subject else None
node_in (In p) i = if p == i.predicate then Some i.object else None
node_in OutAny i = Some i.subject

-- it is asked of triples with the predicate alone
abbrev pub IsOf : NumberedKind → ℕ → Type 0
IsOf (Out p) q = p ≡ q
IsOf (In p) q = p ≡ q
IsOf OutAny q = ⊥

-- each number has a term, of so many
abbrev pub IsBoundKind : ℕ → NumberedKind → Type 0
IsBoundKind n (Out p) = p < n
IsBoundKind n (In p) = p < n
IsBoundKind n OutAny = Unit {0}

pub record IsBoundLookRow (n : ℕ) (look : NumberedLook) : Type 0 where
  pub way : IsBoundOptional n look.way
  pub kind : IsBoundKind n look.kind

abbrev pub AreBoundRows : ℕ → List NumberedLook → Type 0
AreBoundRows n looks = All (IsBoundLookRow n) looks

pub record IsBoundPlan (n : ℕ) (plan : ShapePlan) : Type 0 where
  pub node : plan.node < n
  pub looks : AreBoundRows n plan.looks

abbrev pub AreBoundPlans : ℕ → List ShapePlan → Type 0
AreBoundPlans n plans = All (IsBoundPlan n) plans
