-- Chains of references, from node to node.
use Rattle.std.specs.Prelude.{◌≡◌, ◌≢◌, ◌⊎◌, ◌↔◌, Bool, true, false, ℕ, zero, suc, List, [], ◌∷◌}
use Rattle.std.specs.List.{Contains}
use Rattle.std.specs.declared.cmp.Ordering.TheVariants.{Greater}
use Rattle.rdf_model.specs.declared.term.Term.{Term}
use Rattle.rdf_model.specs.declared.triple.Triple.{Triple}
use Rattle.rdf_model.specs.Terms.{term_cmp}
use Rattle.shape_model.specs.Triples.{Has}

-- from a through the nodes in turn to b, each of which refers to the next
abbrev pub Chain : (Term → Term → Type 0) → Term → List Term → Term → Type 0
Chain R a [] b = R a b
Chain R a (m ∷ ms) b = R a m × Chain R m ms b

-- a chain leads from a to b: one reference or more
abbrev pub LeadsTo : (Term → Term → Type 0) → Term → Term → Type 0
LeadsTo R a b = (ms : List Term) × Chain R a ms b

-- a chain leads from the node to itself
abbrev pub IsOnLoop : (Term → Term → Type 0) → Term → Type 0
IsOnLoop R n = LeadsTo R n n

-- a chain of so many references leads from the node
abbrev pub HasChain : (Term → Term → Type 0) → ℕ → Term → Type 0
HasChain R zero a = Unit {0}
HasChain R (suc n) a = (b : Term) × R a b × HasChain R n b

-- In a graph whose triples are references: the subject of a triple refers to its object.
abbrev pub IsJoined : List Triple → Term → Term → Type 0
IsJoined g a b = (p : Term) × Has g a p b

abbrev pub HasLoopAt : List Triple → Term → Type 0
HasLoopAt g n = IsOnLoop (IsJoined g) n

-- from the object of the triple a chain leads to its subject, or it is its subject
abbrev pub LeadsBack : List Triple → Triple → Type 0
LeadsBack g t = (t.object ≡ t.subject) ⊎ LeadsTo (IsJoined g) t.object t.subject

-- a loop is found at the subject of the triple, or there is none that begins with it
abbrev pub TellsLoop : List Triple → Triple → Bool → Type 0
TellsLoop g t true = HasLoopAt g t.subject
TellsLoop g t false = LeadsBack g t → ⊥

-- the first of the nodes from which a chain leads to themselves
abbrev pub IsLeastOnLoop : List Triple → Term → Type 0
IsLeastOnLoop g n = HasLoopAt g n × ((m : Term) → HasLoopAt g m → term_cmp n m ≢ Greater)

-- the nodes from which a chain of so many references leads
abbrev pub AreWithChain : List Triple → ℕ → List Term → Type 0
AreWithChain g n nodes = (a : Term) → Contains nodes a ↔ HasChain (IsJoined g) n a

-- the first of them
abbrev pub IsLeastWithChain : List Triple → ℕ → Term → Type 0
IsLeastWithChain g n a = HasChain (IsJoined g) n a × ((m : Term) → HasChain (IsJoined g) n m → term_cmp a m ≢ Greater)
