-- The references of a graph by numbers of its nodes.
use Rattle.std.specs.Prelude.{◌≡◌, ◌↔◌, ◌<◌, Bool, true, false, ℕ, zero, suc, List, Option, Some, None, cond, get_or, length, map, slice_get, take}
use Rattle.std.specs.List.{Contains}
use Rattle.std.specs.BTreeMap.{BTreeMap, get_by}
use Rattle.std.specs.Ordering.{is_eq}
use Rattle.rdf_model.specs.declared.term.Term.{Term}
use Rattle.rdf_model.specs.declared.triple.Triple.{Triple}
use Rattle.rdf_model.specs.Terms.{term_cmp}
use Rattle.shape_references.specs.declared.steps.Step.{Step}

-- the number of the node, if it has one
abbrev pub number_in : BTreeMap Term ℕ → Term → Option ℕ
number_in numbers n = get_by (term_cmp n) numbers

-- a number is the index of a triple of which the node is the subject
abbrev pub AreIndices : List Triple → BTreeMap Term ℕ → Type 0
AreIndices g numbers = (n : Term) (i : ℕ) → number_in numbers n ≡ Some i → (t : Triple) × (slice_get g i ≡ Some t) × (t.subject ≡ n)

-- the subjects have numbers
abbrev pub HaveNumbers : List Triple → BTreeMap Term ℕ → Type 0
HaveNumbers g numbers = (t : Triple) → Contains g t → (i : ℕ) × (number_in numbers t.subject ≡ Some i)

-- a triple before the index has the subject, too
abbrev pub IsRepeated : List Triple → ℕ → Triple → Type 0
IsRepeated g i t = (u : Triple) × Contains (take i g) u × (u.subject ≡ t.subject)

-- the node has this number now, and the others have theirs
abbrev pub Numbers : BTreeMap Term ℕ → Term → ℕ → BTreeMap Term ℕ → Type 0
Numbers numbers n i new = (m : Term) → number_in new m ≡ cond (is_eq (term_cmp n m)) (Some i) (number_in numbers m)

-- the triple with numbers in place of nodes
abbrev pub step_in : BTreeMap Term ℕ → Triple → Step
step_in numbers t = record { from = number_in numbers t.subject; to = number_in numbers t.object }

-- the steps are the triples of the graph, by numbers of the nodes
abbrev pub AreSteps : List Triple → List Step → Type 0
AreSteps g steps = (numbers : BTreeMap Term ℕ) × (steps ≡ map (step_in numbers) g) × AreIndices g numbers × HaveNumbers g numbers

-- each step begins at a number below their count
abbrev pub AreInside : List Step → Type 0
AreInside steps = (s : Step) → Contains steps s → (i : ℕ) × (s.from ≡ Some i) × (i < length steps)

-- a chain of so many steps leads from the number
abbrev pub HasSteps : List Step → ℕ → Option ℕ → Type 0
HasSteps steps zero o = Unit {0}
HasSteps steps (suc k) o = (s : Step) × Contains steps s × (s.from ≡ o) × HasSteps steps k s.to

-- whether there is a mark at the number
abbrev pub marked_in : List Bool → Option ℕ → Bool
marked_in marks None = false
marked_in marks (Some i) = get_or marks i false

-- just the numbers from which a chain of so many steps leads are marked
abbrev pub AreMarks : List Step → ℕ → List Bool → Type 0
AreMarks steps k marks = (i : ℕ) → (get_or marks i false ≡ true) ↔ HasSteps steps k (Some i)

-- the node is the subject of a triple before the end, at the index of which there is a mark
abbrev pub IsAtMark : List Triple → List Bool → ℕ → Term → Type 0
IsAtMark g marks end n = (i : ℕ) × (i < end) × (get_or marks i false ≡ true) × ((t : Triple) × (slice_get g i ≡ Some t) × (t.subject ≡ n))
