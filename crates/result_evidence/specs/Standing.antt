-- What is said of evidence by compiled shapes over the numbers of terms: it holds for each shapes graph that they stand for, in
-- which no shape refers to itself and no chain of references is longer than the limit.
use Rattle.std.specs.Prelude.{◌≡◌, ◌↔◌, ◌<◌, ◌≢◌, ℕ, List, [], ◌∷◌, ◌++◌, length, Option, MatchOption, Some, slice_get}
use Rattle.std.specs.List.{Contains}
use Rattle.std.specs.declared.cmp.Ordering.TheVariants.{Greater}
use Rattle.rdf_model.specs.declared.term.Term.{Term}
use Rattle.rdf_model.specs.declared.triple.Triple.{Triple}
use Rattle.rdf_model.specs.declared.ids.Ids.{Ids}
use Rattle.rdf_model.specs.declared.look.Look.{Look}
use Rattle.rdf_model.specs.declared.look.Look.TheVariants.{Out, In, OutAny}
use Rattle.rdf_model.specs.Numbers.{graph_of, term_at}
use Rattle.rdf_model.specs.Terms.{term_cmp}
use Rattle.shape_model.specs.declared.result_row.ResultRow.{ResultRow}
use Rattle.shape_model.specs.Limits.{levels_limit}
use Rattle.shape_model.specs.Readings.{IsAcyclic, IsShallow}
use Rattle.shape_model.specs.Validation.{IsResult}
use Rattle.path_eval.specs.Naming.{IsBoundLook, look_of}
use Rattle.shape_ast.specs.declared.shape.Shape.{Shape}
use Rattle.shape_ast.specs.Readings.{ReadShape, named_shapes}
use Rattle.shape_ast.specs.Standing.{StandFor}
use Rattle.evidence_blocks.specs.declared.block.Block.{Block}
use Rattle.evidence_blocks.specs.Blocks.{IsEvidence}

-- the shapes stand for the shapes graph, in which the references have an end
pub record AreOf (terms : List Term) (shapes : List (Shape ℕ)) (s : List Triple) : Type 0 where
  pub stand : StandFor (named_shapes terms shapes) s
  pub acyclic : IsAcyclic s
  pub shallow : IsShallow levels_limit s

-- they stand for some such graph
abbrev pub HaveGraph : List Term → List (Shape ℕ) → Type 0
HaveGraph terms shapes = (s : List Triple) × AreOf terms shapes s

-- for each such graph P holds of it, and of it and the shape that stands at the place
abbrev pub ForEach : List Term → List (Shape ℕ) → (List Triple → Type 0) → Type 0
ForEach terms shapes P = (s : List Triple) → AreOf terms shapes s → P s

abbrev pub ForShape : List Term → List (Shape ℕ) → ℕ → (List Triple → Term → Type 0) → Type 0
ForShape terms shapes k P = (s : List Triple) (c : ReadShape) → AreOf terms shapes s → slice_get (named_shapes terms shapes) k ≡ Some c → P s c.node

-- the row is a result of the graph under one of them
abbrev pub IsSomeResult : List Term → List Ids → List (Shape ℕ) → ResultRow → Type 0
IsSomeResult terms ids shapes r = (s : List Triple) × AreOf terms shapes s × IsResult (graph_of terms ids) s r

-- the block is evidence of the row
abbrev pub IsEvidenceOf : List Term → List Ids → List (Shape ℕ) → ResultRow → Block → Type 0
IsEvidenceOf terms ids shapes r b = (b.row ≡ r) × ForEach terms shapes (λ s. IsEvidence (graph_of terms ids) s b)

-- the look has numbers: those of a look by numbers of which each has a term
abbrev pub HasNumbers : List Term → Look Term → Type 0
HasNumbers terms look = (n : Look ℕ) × IsBoundLook (length terms) n × (look_of terms n ≡ look)

-- among the nodes with these numbers none is one of which P holds; or this is one, and the least of them in the order of terms
abbrev pub IsLeastIn : List Term → (Term → Type 0) → List ℕ → Option ℕ → Type 0
IsLeastIn terms P nodes least =
    MatchOption least ((n : ℕ) → Contains nodes n → P (term_at terms n) → ⊥)
    (λ m. (m < length terms) × Contains nodes m × P (term_at terms m) × ((n : ℕ) → Contains nodes n → P (term_at terms n) → term_cmp (term_at terms m) (term_at terms n) ≢ Greater))

-- with one node more the least is another, or is kept
abbrev pub IsLeastWith : List Term → (Term → Type 0) → ℕ → Option ℕ → Option ℕ → Type 0
IsLeastWith terms P node old new = (nodes : List ℕ) → IsLeastIn terms P nodes old → IsLeastIn terms P (nodes ++ node ∷ []) new

-- the triple of numbers is one that the look of numbers asks for
abbrev pub MatchesNumbers : Look ℕ → Ids → Type 0
MatchesNumbers (Out x p) i = (i.subject ≡ x) × (i.predicate ≡ p)
MatchesNumbers (In p x) i = (i.predicate ≡ p) × (i.object ≡ x)
MatchesNumbers (OutAny x) i = i.subject ≡ x

-- each of its three numbers has a term
abbrev pub IsNumbered : List Term → Ids → Type 0
IsNumbered terms i = (i.subject < length terms) × (i.predicate < length terms) × (i.object < length terms)

-- the list has just the triples that the look asks for, in any order
abbrev pub CollectsMatches : List Ids → Look ℕ → List Ids → Type 0
CollectsMatches ids look found = (i : Ids) → Contains found i ↔ (Contains ids i × MatchesNumbers look i)

-- a triple with this subject, this predicate, or this object
abbrev pub with_object : ℕ → ℕ → ℕ → Ids
with_object x p o = record { subject = x; predicate = p; object = o }

abbrev pub with_subject : ℕ → ℕ → ℕ → Ids
with_subject p o x = record { subject = x; predicate = p; object = o }

abbrev pub with_edge : ℕ → ℕ × ℕ → Ids
with_edge x e = record { subject = x; predicate = e.0; object = e.1 }
