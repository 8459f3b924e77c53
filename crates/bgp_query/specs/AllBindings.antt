-- What an answer lists.
use Rattle.std.specs.Prelude.{◌≤◌, ℕ, List, length}
use Rattle.std.specs.Cmp.Lexicographic.{slice_cmp}
use Rattle.std.specs.Ordering.{nat_cmp}
use Rattle.collections.specs.Listings.{IsListing}
use Rattle.rdf_model.specs.declared.ids.Ids.{Ids}
use Rattle.bgp_query.specs.declared.pattern.JoinPattern.{JoinPattern}
use Rattle.bgp_query.specs.Bindings.{HasMore, IsBinding, IsIn, most_bindings}

-- rows that are all bindings of the patterns in the set, each once, ascending from the first variable on; they are no
-- more than are answered, and there are no others
pub record AreBindings (ids : List Ids) (patterns : List (JoinPattern ℕ)) (rows : List (List ℕ)) : Type 0 where
  pub listing : IsListing (slice_cmp nat_cmp) (IsBinding (IsIn ids) patterns) rows
  pub few : length rows ≤ most_bindings
  pub not_more : HasMore most_bindings (IsBinding (IsIn ids) patterns) → ⊥
