-- How many terms there are of which something holds.
use Rattle.std.specs.Prelude.{◌≡◌, ℕ, List, length}
use Rattle.collections.specs.Listings.{IsListing}
use Rattle.rdf_model.specs.declared.term.Term.{Term}
use Rattle.rdf_model.specs.Terms.{term_cmp}

-- P holds of n terms
pub record Counts (P : Term → Type 0) (n : ℕ) : Type 0 where
  pub items : List Term
  pub listing : IsListing term_cmp P items
  pub count : length items ≡ n
