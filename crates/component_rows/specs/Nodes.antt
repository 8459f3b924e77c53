-- Nodes by the numbers of their terms.
use Rattle.std.specs.Prelude.{◌≡◌, ◌<◌, ℕ, Bool, true, false, List, length, map}
use Rattle.std.specs.List.{Contains}
use Rattle.std.specs.Ordering.{nat_cmp}
use Rattle.std.proofs.Common.{get_or}
use Rattle.collections.specs.Ordered.{IsAscending}
use Rattle.rdf_model.specs.declared.term.Term.{Term}
use Rattle.rdf_model.specs.Numbers.{term_at}

-- ascending numbers that each have a term
pub record AreNodes (terms : List Term) (numbers : List ℕ) : Type 0 where
  pub ascending : IsAscending nat_cmp numbers
  pub named : (n : ℕ) → Contains numbers n → n < length terms

-- one of the numbers has the term
abbrev pub HasNode : List Term → List ℕ → Term → Type 0
HasNode terms numbers v = Contains (map (term_at terms) numbers) v

-- the answer to one of the numbers that have the term is yes
pub record IsAnswered (terms : List Term) (numbers : List ℕ) (answers : List Bool) (v : Term) : Type 0 where
  pub place : ℕ
  pub within : place < length numbers
  pub has_term : term_at terms (get_or numbers place 0) ≡ v
  pub yes : get_or answers place false ≡ true
