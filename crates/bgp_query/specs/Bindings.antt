-- Bindings of triple patterns (SPARQL 1.1 Query, section 18.3). Assignments are lists of the variables' terms: the
-- first is that of variable 0, and so on. The terms are of any type, as are the triples that a set has.
use Rattle.std.specs.Prelude.{◌≡◌, ◌<◌, ◌↔◌, ◌⊎◌, ℕ, List, Some, length}
use Rattle.std.specs.List.{Contains, slice_get}
use Rattle.rdf_model.specs.declared.ids.Ids.{Ids}
use Rattle.triple_index.specs.Patterns.{AreApart}
use Rattle.bgp_query.specs.declared.pattern.JoinPattern.{JoinPattern}
use Rattle.bgp_query.specs.declared.pattern.Part.{Part}
use Rattle.bgp_query.specs.declared.pattern.Part.TheVariants.{Variable, Constant}

-- the part is this variable
abbrev pub IsVariable : {T : Type 0} → ℕ → Part T → Type 0
IsVariable v (Variable w) = w ≡ v
IsVariable v (Constant c) = ⊥

-- the variable stands in the pattern, and in one of the patterns
abbrev pub HasVariable : {T : Type 0} → JoinPattern T → ℕ → Type 0
HasVariable p v = IsVariable v p.subject ⊎ (IsVariable v p.predicate ⊎ IsVariable v p.object)

abbrev pub Occurs : {T : Type 0} → List (JoinPattern T) → ℕ → Type 0
Occurs {T} ps v = (p : JoinPattern T) × Contains ps p × HasVariable p v

-- the part stands for the term under the assignment
abbrev pub StandsFor : {T : Type 0} → List T → Part T → T → Type 0
StandsFor xs (Variable v) x = slice_get xs v ≡ Some x
StandsFor xs (Constant c) x = c ≡ x

-- the pattern stands in the set under the assignment: its triple is there
abbrev pub StandsIn : {T : Type 0} → (T → T → T → Type 0) → List T → JoinPattern T → Type 0
StandsIn {T} Has xs p = (s : T) × (q : T) × (o : T) × StandsFor xs p.subject s × StandsFor xs p.predicate q × StandsFor xs p.object o × Has s q o

-- the assignment is one of just the variables of the patterns, and each pattern stands in the set under it
pub record IsBinding {T : Type 0} (Has : T → T → T → Type 0) (patterns : List (JoinPattern T)) (xs : List T) : Type 0 where
  pub variables : (v : ℕ) → (v < length xs) ↔ Occurs patterns v
  pub stand : (p : JoinPattern T) → Contains patterns p → StandsIn Has xs p

-- more than n items, no two alike, are as P says
pub record HasMore {X : Type 0} (n : ℕ) (P : X → Type 0) : Type 0 where
  pub items : List X
  pub apart : AreApart items
  pub members : (x : X) → Contains items x → P x
  pub more : n < length items

-- the most bindings that are answered
abbrev pub most_bindings : ℕ
most_bindings = 100000

-- the triple of these numbers is in the set
abbrev pub IsIn : List Ids → ℕ → ℕ → ℕ → Type 0
IsIn ids s p o = Contains ids (record { subject = s; predicate = p; object = o })
