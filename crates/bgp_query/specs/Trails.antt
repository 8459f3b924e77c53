-- Partial assignments as lists of variables with their numbers, and what is collected under one.
use Rattle.std.specs.Prelude.{◌≡◌, ◌≢◌, ◌<◌, ◌≤◌, ◌+◌, ◌↔◌, ◌⊎◌, ◌++◌, ℕ, Bool, true, false, List, Option, Some, length}
use Rattle.std.specs.List.{All, Contains, slice_get}
use Rattle.rdf_model.specs.declared.ids.Ids.{Ids}
use Rattle.triple_index.specs.Patterns.{AreApart, ListsOnce, fits_number}
use Rattle.bgp_query.specs.declared.pattern.JoinPattern.{JoinPattern}
use Rattle.bgp_query.specs.declared.pattern.Part.{Part}
use Rattle.bgp_query.specs.declared.trail.BoundVariable.{BoundVariable}
use Rattle.bgp_query.specs.Bindings.{HasVariable, IsIn, IsVariable, Occurs, StandsFor, StandsIn}

abbrev pub bound : ℕ → ℕ → BoundVariable
bound v n = record { variable = v; number = n }

-- the variable has a number, and has none
abbrev pub HasNumber : List BoundVariable → ℕ → Type 0
HasNumber trail v = (n : ℕ) × Contains trail (bound v n)

abbrev pub IsFree : List BoundVariable → ℕ → Type 0
IsFree trail v = All (λ b. b.variable ≢ v) trail

-- the assignment gives the variables these numbers
abbrev pub Fits : List BoundVariable → List ℕ → Type 0
Fits trail xs = All (λ b. slice_get xs b.variable ≡ Some b.number) trail

-- the variables are below n, and none has two numbers
pub record IsTrail (n : ℕ) (trail : List BoundVariable) : Type 0 where
  pub below : All (λ b. b.variable < n) trail
  pub single : (v x y : ℕ) → Contains trail (bound v x) → Contains trail (bound v y) → x ≡ y

-- the number after the highest of which P holds, and 0 where it holds of none
pub record IsReach (P : ℕ → Type 0) (n : ℕ) : Type 0 where
  pub below : (v : ℕ) → P v → v < n
  pub top : (v : ℕ) → n ≡ v + 1 → P v

-- the variables of the part and of the patterns are below n
abbrev pub IsBelow : ℕ → Part ℕ → Type 0
IsBelow n part = (v : ℕ) → IsVariable v part → v < n

abbrev pub PatternsBelow : ℕ → List (JoinPattern ℕ) → Type 0
PatternsBelow n ps = (v : ℕ) → Occurs ps v → v < n

-- each variable below n has a number, or stands in one of the patterns
abbrev pub Covers : ℕ → List BoundVariable → List (JoinPattern ℕ) → Type 0
Covers n trail ps = (v : ℕ) → v < n → HasNumber trail v ⊎ Occurs ps v

-- a part was given a number: the assignments that fit are those under which the part stands for it; or there is none
abbrev pub Gives : List BoundVariable → List BoundVariable → Part ℕ → ℕ → Bool → Type 0
Gives old new part n true = (xs : List ℕ) → Fits new xs ↔ (Fits old xs × StandsFor xs part n)
Gives old new part n false = (xs : List ℕ) → Fits old xs → StandsFor xs part n → ⊥

pub record Gave (old new : List BoundVariable) (part : Part ℕ) (n : ℕ) (can : Bool) : Type 0 where
  pub grown : (more : List BoundVariable) × (new ≡ old ++ more)
  pub gives : Gives old new part n can
  pub trail : (m : ℕ) → IsBelow m part → IsTrail m old → IsTrail m new
  pub numbers : can ≡ true → (v : ℕ) → IsVariable v part → HasNumber new v

-- the pattern stands for the triple under the assignment
abbrev pub Under : List ℕ → JoinPattern ℕ → Ids → Type 0
Under xs p t = StandsFor xs p.subject t.subject × StandsFor xs p.predicate t.predicate × StandsFor xs p.object t.object

-- the same of the three parts of a pattern
abbrev pub GivesTriple : List BoundVariable → List BoundVariable → JoinPattern ℕ → Ids → Bool → Type 0
GivesTriple old new p t true = (xs : List ℕ) → Fits new xs ↔ (Fits old xs × Under xs p t)
GivesTriple old new p t false = (xs : List ℕ) → Fits old xs → Under xs p t → ⊥

pub record GaveTriple (old new : List BoundVariable) (p : JoinPattern ℕ) (t : Ids) (can : Bool) : Type 0 where
  pub grown : (more : List BoundVariable) × (new ≡ old ++ more)
  pub gives : GivesTriple old new p t can
  pub trail : (m : ℕ) → ((v : ℕ) → HasVariable p v → v < m) → IsTrail m old → IsTrail m new
  pub numbers : can ≡ true → (v : ℕ) → HasVariable p v → HasNumber new v

-- what is known of a part's number under the assignments that fit
abbrev pub IsKnown : List BoundVariable → Part ℕ → Option ℕ → Type 0
IsKnown trail part known = (xs : List ℕ) (n : ℕ) → Fits trail xs → StandsFor xs part n → fits_number known n ≡ true

-- an assignment of n variables that fits
pub record IsFull (n : ℕ) (trail : List BoundVariable) (xs : List ℕ) : Type 0 where
  pub size : length xs ≡ n
  pub fits : Fits trail xs

-- and under which the patterns stand
pub record IsRow (ids : List Ids) (n : ℕ) (trail : List BoundVariable) (ps : List (JoinPattern ℕ)) (xs : List ℕ) : Type 0 where
  pub full : IsFull n trail xs
  pub stand : (p : JoinPattern ℕ) → Contains ps p → StandsIn (IsIn ids) xs p

-- and under which one more pattern stands for this triple, and for one of these
pub record IsUnder (ids : List Ids) (n : ℕ) (trail : List BoundVariable) (p : JoinPattern ℕ) (ps : List (JoinPattern ℕ)) (t : Ids) (xs : List ℕ) : Type 0 where
  pub row : IsRow ids n trail ps xs
  pub under : Under xs p t

abbrev pub IsMet : List Ids → ℕ → List BoundVariable → JoinPattern ℕ → List (JoinPattern ℕ) → List Ids → List ℕ → Type 0
IsMet ids n trail p ps found xs = (t : Ids) × Contains found t × IsUnder ids n trail p ps t xs

-- triples of the set, each once, among them each for which the pattern stands under an assignment that fits
pub record MayStand (ids : List Ids) (trail : List BoundVariable) (p : JoinPattern ℕ) (found : List Ids) : Type 0 where
  pub apart : AreApart found
  pub inside : (t : Ids) → Contains found t → Contains ids t
  pub all : (xs : List ℕ) (t : Ids) → Fits trail xs → Under xs p t → Contains ids t → Contains found t

-- the items came to the end: all that are as P says, each once, and no more than the most in all
pub record Added {X : Type 0} (most : ℕ) (P : X → Type 0) (old new : List X) : Type 0 where
  pub added : List X
  pub grown : new ≡ old ++ added
  pub listed : ListsOnce P added
  pub few : length new ≤ most

-- some came, no two alike, and there are more than the most
pub record Overflows {X : Type 0} (most : ℕ) (P : X → Type 0) (old new : List X) : Type 0 where
  pub added : List X
  pub grown : new ≡ old ++ added
  pub apart : AreApart added
  pub members : (x : X) → Contains added x → P x
  pub more : most < length new
