-- What the list of the terms of a dictionary and its entries by hash have in common, and what is looked for in them.
use Rattle.std.specs.Prelude.{◌≡◌, ◌↔◌, ◌<◌, ◌≤◌, ℕ, List, length}
use Rattle.std.specs.List.{Contains}
use Rattle.collections.specs.Ordered.{IsAscending}
use Rattle.rdf_model.specs.declared.term.Term.{Term}
use Rattle.rdf_model.specs.Numbers.{IsNumbering, term_at}
use Rattle.term_dict.specs.declared.entry.ByHash.{ByHash}
use Rattle.term_dict.specs.Entries.{entry_cmp, entries_from}
use Rattle.term_dict.specs.Hashes.{term_hash}

-- the entries are those of the terms, numbered by their places, and no term stands twice
pub record AreOne (terms : List Term) (entries : List ByHash) : Type 0 where
  pub ascending : IsAscending entry_cmp entries
  pub same : (e : ByHash) → Contains (entries_from 0 terms) e ↔ Contains entries e
  pub apart : IsNumbering terms

-- no term with the hash has a number from one up to another, and without that one
abbrev pub NoneHashed : List Term → ℕ → ℕ → ℕ → Type 0
NoneHashed terms hash from to = (n : ℕ) → from ≤ n → n < to → n < length terms → term_hash (term_at terms n) ≡ hash → ⊥

-- the first number, from one on, of a term with the hash
pub record IsNext (terms : List Term) (hash from n : ℕ) : Type 0 where
  pub reached : from ≤ n
  pub within : n < length terms
  pub hashed : term_hash (term_at terms n) ≡ hash
  pub none : NoneHashed terms hash from n

-- the term has no number from the one given on
abbrev pub IsNoneFrom : List Term → ℕ → Term → Type 0
IsNoneFrom terms from t = (n : ℕ) → from ≤ n → n < length terms → term_at terms n ≡ t → ⊥
