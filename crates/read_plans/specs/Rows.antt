-- Planned looks as rows of looks, and when rows have been added to a plan.
use Rattle.std.specs.Prelude.{◌≡◌, ◌<◌, ◌+◌, ℕ, List, ◌++◌, length, map, Result, MatchResult}
use Rattle.shape_model.specs.Looks.{LookRow, ByOut, ByIn, ByOutAny}
use Rattle.shape_model.specs.Limits.{looks_limit}
use Rattle.shape_model.specs.Looks as defined
use Rattle.path_ast.specs.PathReadings.{defined_path}
use Rattle.read_plans.specs.declared.fault.PlanFault.{PlanFault}
use Rattle.read_plans.specs.declared.fault.PlanFault.TheVariants.{TooWide, Memory}
use Rattle.read_plans.specs.declared.look.LookKind.{LookKind}
use Rattle.read_plans.specs.declared.look.LookKind.TheVariants.{Out, In, OutAny}
use Rattle.read_plans.specs.declared.look.PlannedLook.{PlannedLook}

abbrev pub read_kind : LookKind → defined.LookKind
read_kind (Out p) = ByOut p
read_kind (In p) = ByIn p
read_kind OutAny = ByOutAny

-- the row that a planned look is
abbrev pub read_look : PlannedLook → LookRow
read_look look = record { way = map defined_path look.way; kind = read_kind look.kind }

abbrev pub read_looks : List PlannedLook → List LookRow
read_looks looks = map read_look looks

-- A plan of so many looks was given up: they are more than the limit, and no more than one over it were counted; or there
-- was too little memory.
abbrev pub IsStopped : ℕ → PlanFault → Type 0
IsStopped n (TooWide count) = (count ≡ looks_limit + 1) × (looks_limit < n)
IsStopped n Memory = Unit {0}

-- the rows were added at the end, or were too many with the old ones
abbrev pub Adds : {X : Type 0} → List LookRow → List PlannedLook → List PlannedLook → Result X PlanFault → Type 0
Adds more old new result = MatchResult result (λ done. read_looks new ≡ read_looks old ++ more) (λ fault. IsStopped (length old + length more) fault)
