-- Terms and triples by number: a term's number is its place in a list of terms.
use Rattle.std.specs.Prelude.{◌≡◌, ◌<◌, ℕ, Bool, ◌&&◌, ◌==◌, if◌then◌else◌, List, length, map, Option, Some, None}
use Rattle.std.specs.List.{AllByRecursion, Contains, list_any}
use Rattle.std.proofs.Common.{get_or}
use Rattle.rdf_model.specs.declared.term.Term.{Term}
use Rattle.rdf_model.specs.declared.term.Term.TheVariants.{Blank}
use Rattle.rdf_model.specs.declared.triple.Triple.{Triple}
use Rattle.rdf_model.specs.declared.ids.Ids.{Ids}
use Rattle.rdf_model.specs.declared.look.Look.{Look}
use Rattle.rdf_model.specs.declared.look.Look.TheVariants.{Out, In, OutAny}

-- the term of a number; any, where there is none
abbrev pub term_at : List Term → ℕ → Term
term_at terms n = get_or terms n (Blank 0 0)

-- no term has two numbers
abbrev pub IsNumbering : List Term → Type 0
IsNumbering terms = (n m : ℕ) → n < length terms → m < length terms → term_at terms n ≡ term_at terms m → n ≡ m

-- the triple of three numbers, and the graph of such triples
abbrev pub triple_at : List Term → Ids → Triple
triple_at terms i = record { subject = term_at terms i.subject; predicate = term_at terms i.predicate; object = term_at terms i.object }

abbrev pub graph_of : List Term → List Ids → List Triple
graph_of terms ids = map (triple_at terms) ids

-- each number of the triples has a term
abbrev pub AreNumbered : List Term → List Ids → Type 0
AreNumbered terms ids = AllByRecursion (λ (i : Ids). (i.subject < length terms) × (i.predicate < length terms) × (i.object < length terms)) ids

-- the number is one that the look asks for: the object of a triple with its subject and predicate, the subject of one
-- with its predicate and object; none where it asks for more than one number of a triple
abbrev pub IsFound : Look ℕ → List Ids → ℕ → Type 0
IsFound (Out x p) ids n = Contains ids (record { subject = x; predicate = p; object = n })
IsFound (In p x) ids n = Contains ids (record { subject = n; predicate = p; object = x })
IsFound (OutAny x) ids n = ⊥

-- the pair is predicate and object of a triple with the subject
abbrev pub IsEdge : List Ids → ℕ → ℕ × ℕ → Type 0
IsEdge ids x e = Contains ids (record { subject = x; predicate = e.0; object = e.1 })

-- the number that the look asks for in a triple that it reads, and the edge of a triple with the subject
abbrev pub number_in : Look ℕ → Ids → Option ℕ
number_in (Out x p) i = if x == i.subject && p == i.predicate then Some i.object else None
number_in (In p x) i = if p == i.predicate && x == i.object then Some i.subject else None
number_in (OutAny x) i = None

abbrev pub edge_in : ℕ → Ids → Option (ℕ × ℕ)
edge_in x i = if i.subject == x then Some (i.predicate, i.object) else None

-- the pair is subject and object of a triple with the predicate; and that pair of a triple
abbrev pub IsJoined : List Ids → ℕ → ℕ × ℕ → Type 0
IsJoined ids p e = Contains ids (record { subject = e.0; predicate = p; object = e.1 })

abbrev pub pair_in : ℕ → Ids → Option (ℕ × ℕ)
pair_in p i = if i.predicate == p then Some (i.subject, i.object) else None

-- it asks for one number
abbrev pub AsksForOne : Look ℕ → Type 0
AsksForOne (Out x p) = Unit {0}
AsksForOne (In p x) = Unit {0}
AsksForOne (OutAny x) = ⊥

-- whether the look reads the triple
abbrev pub reads_numbers : Look ℕ → Ids → Bool
reads_numbers (Out x p) i = x == i.subject && p == i.predicate
reads_numbers (In p x) i = p == i.predicate && x == i.object
reads_numbers (OutAny x) i = x == i.subject

abbrev pub is_touched : List (Look ℕ) → Ids → Bool
is_touched looks i = list_any (λ l. reads_numbers l i) looks
