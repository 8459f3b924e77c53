-- References in bundles, and the graph of the names of their nodes.
use Rattle.std.specs.Prelude.{◌≡◌, ◌≢◌, ◌⊎◌, ◌↔◌, ◌<◌, ℕ, List, length, Option, Some, None, slice_get}
use Rattle.std.specs.List.{Contains}
use Rattle.std.specs.declared.cmp.Ordering.TheVariants.{Greater}
use Rattle.rdf_model.specs.declared.term.Term.{Term}
use Rattle.rdf_model.specs.declared.term.Term.TheVariants.{Blank}
use Rattle.rdf_model.specs.declared.triple.Triple.{Triple}
use Rattle.rdf_model.specs.Terms.{term_cmp, triple_cmp}
use Rattle.collections.specs.Listings.{IsListing}
use Rattle.shape_syntax.specs.Gathering.{Gives}
use Rattle.shape_references.specs.declared.bundle.Bundle.{Bundle}

-- by one of the bundles a refers to b
abbrev pub IsBound : List Bundle → Term → Term → Type 0
IsBound bundles a b = (w : Bundle) × Contains bundles w × Contains w.from a × Contains w.to b

-- the node is one of the bundle's
abbrev pub IsNodeOf : Bundle → Term → Type 0
IsNodeOf w n = Contains w.from n ⊎ Contains w.to n

-- P holds of the node, and of none before it
abbrev pub IsLeastNode : (Term → Type 0) → Term → Type 0
IsLeastNode P n = P n × ((m : Term) → P m → term_cmp n m ≢ Greater)

-- the node stands at the place
abbrev pub IsPlace : List Term → ℕ → Term → Type 0
IsPlace nodes i n = slice_get nodes i ≡ Some n

-- the name of the node
abbrev pub IsName : List Term → Term → Term → Type 0
IsName nodes n x = (i : ℕ) × IsPlace nodes i n × (x ≡ Blank 0 i)

-- the node that has the name, if there is a name and a node has it
abbrev pub IsFoundNode : List Term → Option Term → Option Term → Type 0
IsFoundNode nodes None found = found ≡ None
IsFoundNode nodes (Some x) found = (n : Term) → (found ≡ Some n) ↔ IsName nodes n x

-- the triple leads from the node to the bundle at the place
abbrev pub IsInto : List Term → ℕ → Term → Triple → Type 0
IsInto nodes i a t = (x : Term) × IsName nodes a x × (t ≡ record { subject = x; predicate = Blank 1 i; object = Blank 1 i })

-- it leads from the bundle to the node
abbrev pub IsOutOf : List Term → ℕ → Term → Triple → Type 0
IsOutOf nodes i b t = (x : Term) × IsName nodes b x × (t ≡ record { subject = Blank 1 i; predicate = Blank 1 i; object = x })

-- it is a triple of this bundle, which has the place
abbrev pub IsEdgeOf : List Term → ℕ → Bundle → Triple → Type 0
IsEdgeOf nodes i w t = Gives (IsInto nodes i) w.from t ⊎ Gives (IsOutOf nodes i) w.to t

-- it is one of a bundle whose place is before the end
abbrev pub IsEdge : List Term → List Bundle → ℕ → Triple → Type 0
IsEdge nodes bundles end t = (i : ℕ) × (i < end) × ((w : Bundle) × (slice_get bundles i ≡ Some w) × IsEdgeOf nodes i w t)

-- these are the nodes of the bundles and their triples, in order
pub record IsNamedGraph (bundles : List Bundle) (ns : List Term) (ts : List Triple) : Type 0 where
  pub nodes : IsListing term_cmp (Gives IsNodeOf bundles) ns
  pub edges : IsListing triple_cmp (IsEdge ns bundles (length bundles)) ts

-- the references that stood in bundles, and what some item of the list gives
abbrev pub HasBound : {X : Type 0} → (X → Term → Term → Type 0) → List X → List Bundle → List Bundle → Type 0
HasBound {X} At xs old now = (a b : Term) → IsBound now a b ↔ (IsBound old a b ⊎ ((x : X) × Contains xs x × At x a b))
