-- The numbers of terms and triples among terms that are kept, and how they are found by hash.
use Rattle.std.specs.Prelude.{◌≡◌, ◌+◌, ◌<◌, ◌≤◌, ◌^◌, ◌++◌, ℕ, List, [], ◌∷◌, length, if◌then◌else◌, Option, None, Some}
use Rattle.std.proofs.Common.{get_or}
use Rattle.collections.specs.Ordered.{has_item}
use Rattle.rdf_model.specs.declared.ids.Ids.{Ids}
use Rattle.rdf_model.specs.declared.term.Term.{Term}
use Rattle.rdf_model.specs.declared.triple.Triple.{Triple}
use Rattle.rdf_model.specs.Numbers.{IsNumbering, term_at, triple_at}
use Rattle.rdf_model.specs.Terms.{term_cmp}
use Rattle.triple_table.specs.Hashes.{term_hash}

-- terms came behind the old ones, or none
abbrev pub HasGrown : List Term → List Term → Type 0
HasGrown old new = (more : List Term) × (new ≡ old ++ more)

-- the terms with one more, at the end where it is new
abbrev pub with_term : List Term → Term → List Term
with_term terms t = if has_item term_cmp t terms then terms else terms ++ t ∷ []

-- the term stands at the place
pub record IsPlaceOf (terms : List Term) (n : ℕ) (t : Term) : Type 0 where
  pub within : n < length terms
  pub is : term_at terms n ≡ t

-- the triple is that of the numbers
pub record IsTripleOf (terms : List Term) (i : Ids) (t : Triple) : Type 0 where
  pub within : (i.subject < length terms) × (i.predicate < length terms) × (i.object < length terms)
  pub is : triple_at terms i ≡ t

-- no term with the hash has a number from one up to another, without that
abbrev pub NoneHashed : List Term → ℕ → ℕ → ℕ → Type 0
NoneHashed terms hash from below = (k : ℕ) → from ≤ k → k < below → term_hash (term_at terms k) ≡ hash → ⊥

-- the number is the greatest below a bound of a term with the hash
pub record IsGreatest (terms : List Term) (hash below n : ℕ) : Type 0 where
  pub within : n < below
  pub hashed : term_hash (term_at terms n) ≡ hash
  pub none : NoneHashed terms hash (n + 1) below

-- the newest number below a bound of a term with the hash, where there is one
abbrev pub IsNewest : List Term → ℕ → ℕ → Option ℕ → Type 0
IsNewest terms hash below None = NoneHashed terms hash 0 below
IsNewest terms hash below (Some n) = IsGreatest terms hash below n

-- each hash has the newest number of a term with it, each number the next older one with its hash, and no term stands twice
pub record AreOne (terms : List Term) (newest : ℕ → Option ℕ) (older : List (Option ℕ)) : Type 0 where
  pub long : length older ≡ length terms
  pub fits : length terms < 2 ^ 32
  pub apart : IsNumbering terms
  pub last : (hash : ℕ) → IsNewest terms hash (length terms) (newest hash)
  pub before : (n : ℕ) → n < length terms → IsNewest terms (term_hash (term_at terms n)) n (get_or older n None)

-- the term has no number but one that is up to a number whose term has its hash, or none at all
abbrev pub IsLeft : List Term → Term → Option ℕ → Type 0
IsLeft terms t None = (k : ℕ) → k < length terms → term_at terms k ≡ t → ⊥
IsLeft terms t (Some n) = (n < length terms) × (term_hash (term_at terms n) ≡ term_hash t) × ((k : ℕ) → n < k → k < length terms → term_at terms k ≡ t → ⊥)
