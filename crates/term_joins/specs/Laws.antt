-- What the bindings in a graph of terms are, and what they rest on.
use Rattle.std.specs.Prelude.{◌≡◌, ◌↔◌, List, true}
use Rattle.std.specs.List.{Contains}
use Rattle.collections.specs.Listings.{IsListing}
use Rattle.rdf_model.specs.declared.term.Term.{Term}
use Rattle.rdf_model.specs.declared.triple.Triple.{Triple}
use Rattle.rdf_model.specs.Matching.{matches}
use Rattle.bgp_query.specs.declared.pattern.JoinPattern.{JoinPattern}
use Rattle.bgp_query.specs.Bindings.{IsBinding}
use Rattle.bgp_query.specs.TermBindings.{bindings, opened}
use Rattle.term_joins.specs.Orders.{row_cmp}

-- the triple of these terms is in the graph
abbrev pub IsThere : List Triple → Term → Term → Term → Type 0
IsThere g s p o = Contains g (record { subject = s; predicate = p; object = o })

-- They are all assignments of just the variables of the patterns under which each pattern stands in the graph, each once,
-- ascending.
abbrev pub BindingsAreAll : Type 0
BindingsAreAll = (g : List Triple) (ps : List (JoinPattern Term)) → IsListing row_cmp (IsBinding (IsThere g) ps) (bindings g ps)

-- Two graphs that have the same triples for which the patterns ask, whatever their variables stand for, have the same.
abbrev pub BindingsRestOnFinds : Type 0
BindingsRestOnFinds = (g h : List Triple) (ps : List (JoinPattern Term)) → ((p : JoinPattern Term) → Contains ps p → (t : Triple) → matches (opened p) t ≡ true → Contains g t ↔ Contains h t) → bindings g ps ≡ bindings h ps
