-- How the triples that a pattern asks for are found.
use Rattle.std.specs.Prelude.{◌≡◌, ◌↔◌, ◌⊎◌, true, List}
use Rattle.std.specs.List.{Contains, filter}
use Rattle.collections.specs.Ordered.{IsAscending}
use Rattle.rdf_model.specs.declared.change.Change.{Change}
use Rattle.rdf_model.specs.declared.ids.Ids.{Ids}
use Rattle.rdf_model.specs.declared.pattern.Pattern.{Pattern}
use Rattle.rdf_model.specs.declared.term.Term.{Term}
use Rattle.rdf_model.specs.declared.triple.Triple.{Triple}
use Rattle.rdf_model.specs.Graphs.{after}
use Rattle.rdf_model.specs.Matching.{matches}
use Rattle.rdf_model.specs.Numbers.{triple_at}
use Rattle.rdf_model.specs.Terms.{triple_cmp}
use Rattle.store_model.specs.Store.{changed_triple}

-- the changes of triples that the pattern asks for
abbrev pub changes_asked : Pattern → List Change → List Change
changes_asked p net = filter (λ c. matches p (changed_triple c)) net

-- the numbers are among these, and the pattern asks for their triple
abbrev pub IsAsked : List Term → List Ids → Pattern → Ids → Type 0
IsAsked terms ids p i = Contains ids i × (matches p (triple_at terms i) ≡ true)

-- among the triples and not removed, or added
abbrev pub IsLaid : List Triple → List Triple → List Triple → Triple → Type 0
IsLaid ts added removed t = (Contains ts t × (Contains removed t → ⊥)) ⊎ Contains added t

-- after the changes each graph has what it had and is not removed, and what is added
abbrev pub AreLast : List Change → List Triple → List Triple → Type 0
AreLast net added removed = (g : List Triple) → IsAscending triple_cmp g → (t : Triple) → Contains (after g net) t ↔ IsLaid g added removed t
