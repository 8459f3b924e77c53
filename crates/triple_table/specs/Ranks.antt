-- Terms by their order, and triples by the ranks of their subjects and predicates.
use Rattle.std.specs.Prelude.{◌≡◌, ◌+◌, ◌<◌, ◌==◌, ◌||◌, ℕ, Bool, false, IsTrue, List, [], ◌∷◌, length, map}
use Rattle.std.specs.List.{AllByRecursion, filter, list_any}
use Rattle.std.specs.declared.cmp.Ordering.{Ordering}
use Rattle.std.specs.Ordering.{nat_cmp, ordering_then}
use Rattle.std.proofs.Common.{get_or}
use Rattle.collections.specs.Ordered.{IsAscending}
use Rattle.rdf_model.specs.declared.ids.Ids.{Ids}
use Rattle.rdf_model.specs.declared.term.Term.{Term}
use Rattle.rdf_model.specs.declared.term.Term.TheVariants.{Blank}
use Rattle.rdf_model.specs.Numbers.{term_at}
use Rattle.rdf_model.specs.Terms.{term_cmp}
use Rattle.triple_table.specs.Keys.{HasBytes, term_key}

-- a term, its key and its place among others
pub record Placed : Type 0 where
  pub key : ℕ
  pub term : Term
  pub place : ℕ

-- by key, then by term, then by place
abbrev pub placed_cmp : Placed → Placed → Ordering
placed_cmp a b = ordering_then (ordering_then (nat_cmp a.key b.key) (term_cmp a.term b.term)) (nat_cmp a.place b.place)

-- the terms with their keys behind a beginning, whose places are counted from one on
abbrev pub placed_from : List ℕ → ℕ → List Term → List Placed
placed_from beginning n [] = []
placed_from beginning n (t ∷ ts) = record { key = term_key beginning t; term = t; place = n } ∷ placed_from beginning (n + 1) ts

-- the IRIs among the terms are ones of bytes
abbrev pub HaveBytes : List Placed → Type 0
HaveBytes placed = AllByRecursion (λ (p : Placed). HasBytes p.term) placed

abbrev pub terms_of : List Placed → List Term
terms_of placed = map (λ (p : Placed). p.term) placed

-- each place is below a count
abbrev pub AreWithin : ℕ → List Placed → Type 0
AreWithin count placed = AllByRecursion (λ (p : Placed). p.place < count) placed

-- what stands at a rank
abbrev pub placed_at : List Placed → ℕ → Placed
placed_at placed n = get_or placed n (record { key = 0; term = Blank 0 0; place = 0 })

-- the rank of a place
abbrev pub rank_at : List ℕ → ℕ → ℕ
rank_at ranks p = get_or ranks p 0

-- the places of the first so many have the ranks of what stands there
abbrev pub AreRanks : List Placed → ℕ → List ℕ → Type 0
AreRanks placed count ranks = (k : ℕ) → k < count → (rank_at ranks (placed_at placed k).place < count) × ((placed_at placed (rank_at ranks (placed_at placed k).place)).place ≡ (placed_at placed k).place)

-- whether the number is marked
abbrev pub is_marked : List Bool → ℕ → Bool
is_marked marks n = get_or marks n false

-- whether the number is that of a triple's subject or predicate
abbrev pub is_used : List Ids → ℕ → Bool
is_used ids n = list_any (λ (i : Ids). i.subject == n || i.predicate == n) ids

-- just the numbers of subjects and predicates are marked
abbrev pub AreMarks : List Bool → List Ids → Type 0
AreMarks marks ids = (n : ℕ) → is_marked marks n ≡ is_used ids n

-- the terms whose numbers are marked, each with its number as its place
abbrev pub placed_marked : List ℕ → List Bool → List Term → List Placed
placed_marked beginning marks terms = filter (λ (p : Placed). is_marked marks p.place) (placed_from beginning 0 terms)

-- the term of a number stands at the number's rank
abbrev pub HasRank : List Term → List Term → List ℕ → ℕ → Type 0
HasRank terms sorted ranks n = (rank_at ranks n < length sorted) × (term_at sorted (rank_at ranks n) ≡ term_at terms n)

-- The sorted terms ascend and are just those of subjects and predicates, and the number of each has its rank among them, where the
-- number stands as its place.
pub record IsRanking (terms : List Term) (placed : List Placed) (ranks : List ℕ) (ids : List Ids) : Type 0 where
  pub ascending : IsAscending term_cmp (terms_of placed)
  pub long : length ranks ≡ length terms
  pub stand : (n : ℕ) → n < length terms → IsTrue (is_used ids n) → HasRank terms (terms_of placed) ranks n
  pub back : (n : ℕ) → n < length terms → IsTrue (is_used ids n) → (placed_at placed (rank_at ranks n)).place ≡ n
  pub only : AllByRecursion (λ t. (n : ℕ) × IsTrue (is_used ids n) × (term_at terms n ≡ t)) (terms_of placed)

-- a triple by the ranks of its subject and predicate, with its object and that one's number
pub record Ranked : Type 0 where
  pub subject : ℕ
  pub predicate : ℕ
  pub object : Term
  pub number : ℕ

-- by the ranks, then by the object, then by its number
abbrev pub ranked_cmp : Ranked → Ranked → Ordering
ranked_cmp a b = ordering_then (nat_cmp a.subject b.subject) (ordering_then (nat_cmp a.predicate b.predicate) (ordering_then (term_cmp a.object b.object) (nat_cmp a.number b.number)))

-- the ranks and the object of a triple of three numbers
abbrev pub ranked : List Term → List ℕ → Ids → Ranked
ranked terms ranks i = record { subject = rank_at ranks i.subject; predicate = rank_at ranks i.predicate; object = term_at terms i.object; number = i.object }

-- the three numbers of a triple of ranks
abbrev pub unranked : List Placed → Ranked → Ids
unranked placed r = record { subject = (placed_at placed r.subject).place; predicate = (placed_at placed r.predicate).place; object = r.number }

-- both ranks are below a count
abbrev pub IsBelow : ℕ → Ranked → Type 0
IsBelow count r = (r.subject < count) × (r.predicate < count)
