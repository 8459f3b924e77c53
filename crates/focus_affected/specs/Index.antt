-- The rows of plans by the predicates that they ask of.
use Rattle.std.specs.Prelude.{◌≡◌, ◌↔◌, ◌<◌, ◌⊎◌, ℕ, List, [], ◌∷◌, length, get_or}
use Rattle.std.specs.List.{Contains}
use Rattle.focus_affected.specs.declared.plan.NumberedKind.{NumberedKind}
use Rattle.focus_affected.specs.declared.plan.NumberedKind.TheVariants.{Out, In, OutAny}
use Rattle.focus_affected.specs.declared.plan.NumberedLook.{NumberedLook}
use Rattle.focus_affected.specs.declared.plan.ShapePlan.{ShapePlan}
use Rattle.focus_affected.specs.declared.index.IndexedRow.{IndexedRow}
use Rattle.focus_affected.specs.declared.index.RowPlace.{RowPlace}
use Rattle.focus_affected.specs.Plans.{IsOf}

-- x is the item at k
abbrev pub IsItem : {X : Type 0} → List X → ℕ → X → Type 0
IsItem xs k x = (k < length xs) × (get_or xs k x ≡ x)

-- the row is that at the place, of the plan
pub record IsRowAt (plans : List ShapePlan) (at : RowPlace) (plan : ShapePlan) (look : NumberedLook) : Type 0 where
  pub of_plans : IsItem plans at.plan plan
  pub of_plan : IsItem plan.looks at.look look

abbrev pub HasRow : List ShapePlan → RowPlace → Type 0
HasRow plans at = (plan : ShapePlan) × (look : NumberedLook) × IsRowAt plans at plan look

-- the row at the place asks so
abbrev pub IsKindAt : List ShapePlan → RowPlace → NumberedKind → Type 0
IsKindAt plans at kind = (plan : ShapePlan) × (look : NumberedLook) × IsRowAt plans at plan look × (look.kind ≡ kind)

-- the lists have the places of just the rows of which P holds: under each predicate those that ask triples with it alone, and
-- those that ask any triple
pub record ListsRows (P : RowPlace → NumberedKind → Type 0) (rows : List IndexedRow) (any : List RowPlace) : Type 0 where
  pub under : (r : IndexedRow) → Contains rows r ↔ ((kind : NumberedKind) × P r.at kind × IsOf kind r.predicate)
  pub anywhere : (at : RowPlace) → Contains any at ↔ P at OutAny

-- the place comes before that of a row, by its plan and its own place in the plan
abbrev pub IsBefore : ℕ → ℕ → RowPlace → Type 0
IsBefore plan look at = (at.plan < plan) ⊎ ((at.plan ≡ plan) × (at.look < look))

abbrev pub indexed : ℕ → RowPlace → IndexedRow
indexed p at = record { predicate = p; at = at }

-- what a row adds to the two lists
abbrev pub rows_added : NumberedKind → RowPlace → List IndexedRow
rows_added (Out p) at = indexed p at ∷ []
rows_added (In p) at = indexed p at ∷ []
rows_added OutAny at = []

abbrev pub any_added : NumberedKind → RowPlace → List RowPlace
any_added (Out p) at = []
any_added (In p) at = []
any_added OutAny at = at ∷ []

-- some triple with one of the predicates may match what is asked
abbrev pub IsAskedOf : List ℕ → NumberedKind → Type 0
IsAskedOf predicates kind = (kind ≡ OutAny) ⊎ ((p : ℕ) × Contains predicates p × IsOf kind p)
