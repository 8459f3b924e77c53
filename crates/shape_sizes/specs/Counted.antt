-- How the sizes of shapes are found: by totals over places, one for each shape, and one that stands in for the qualified
-- value shapes under a parent.
use Rattle.std.specs.Prelude.{◌≡◌, ◌⊎◌, ◌<◌, ◌++◌, ◌∷◌, [], ℕ, List, Some}
use Rattle.std.specs.List.{Contains}
use Rattle.std.specs.BTreeMap.{BTreeMap}
use Rattle.collections.specs.Listings.{IsListing}
use Rattle.collections.specs.Ordered.{IsAscending}
use Rattle.rdf_model.specs.declared.term.Term.{Term}
use Rattle.rdf_model.specs.declared.term.Term.TheVariants.{Blank}
use Rattle.rdf_model.specs.declared.triple.Triple.{Triple}
use Rattle.rdf_model.specs.Terms.{term_cmp}
use Rattle.reference_totals.specs.declared.place.WeightedPlace.{WeightedPlace}
use Rattle.reference_totals.specs.Totals.{capped, entry}
use Rattle.shape_references.specs.Bundles.{IsName, IsPlace}
use Rattle.shape_references.specs.Siblings.{IsOnlyParent, IsQualifiedUnder}
use Rattle.shape_properties.specs.declared.property.ShapeProperty.TheVariants as properties
use Rattle.shape_properties.specs.Syntax.{IsShape}
use Rattle.shape_sizes.specs.Sizes.{AreCounted, AreMembersOf, HasQualifiedCount, IsDeactivated, Weighs, values}

-- what was there, and behind it a list of which P holds
abbrev pub HasAdded : {X : Type 0} → (List X → Type 0) → List X → List X → Type 0
HasAdded {X} P old now = (xs : List X) × P xs × (now ≡ old ++ xs)

-- the parents ascend, and no shape has a name of one
abbrev pub HaveNames : List Triple → List Term → Type 0
HaveNames s parents = IsAscending term_cmp parents × ((n p x : Term) → IsShape s n → IsName parents p x → n ≡ x → ⊥)

-- what a shape counts but for its qualified value shape and its siblings
abbrev pub IsUnqualified : List Triple → Term → List Term → Type 0
IsUnqualified s n ms = (members : List Term)
    × AreMembersOf s (values s n properties.And ++ values s n properties.Or ++ values s n properties.Xone) members
    × (ms ≡ values s n properties.Not ++ values s n properties.Node ++ values s n properties.Property ++ members)

-- x stands for its qualified value shape and its siblings, which are those under its only parent
abbrev pub IsStandIn : List Triple → List Term → Term → Term → Type 0
IsStandIn s parents n x = HasQualifiedCount s n × ((p : Term) × IsName parents p x × IsOnlyParent s n p)

-- what it counts, with a name that stands for those
abbrev pub AreCountedBy : List Triple → List Term → Term → List Term → Type 0
AreCountedBy s parents n to = (ms : List Term) × (x : Term) × IsUnqualified s n ms × IsStandIn s parents n x × (to ≡ ms ++ x ∷ [])

-- the shapes to which it refers, or names that stand for some of them
abbrev pub IsReferredTo : List Triple → List Term → Term → List Term → Type 0
IsReferredTo s parents n to = (IsDeactivated s n × (to ≡ [])) ⊎ ((IsDeactivated s n → ⊥) × (AreCounted s n to ⊎ AreCountedBy s parents n to))

-- the place of a shape: its own weight, and to what it refers
abbrev pub IsPlaceOf : List Triple → (Term → ℕ → Type 0) → List Term → WeightedPlace → Type 0
IsPlaceOf s W parents p = IsShape s p.node × W p.node p.own × IsReferredTo s parents p.node p.to

-- the place that stands in for the qualified value shapes under a parent
abbrev pub IsStandInPlace : List Triple → List Term → WeightedPlace → Type 0
IsStandInPlace s parents q = (p : Term) × IsName parents p q.node × (q.own ≡ 0) × IsListing term_cmp (IsQualifiedUnder s p) q.to

-- the places that were there, and with them those for the parents before the end
pub record HaveStandIns (s : List Triple) (parents : List Term) (end : ℕ) (old now : List WeightedPlace) : Type 0 where
  pub each : (q : WeightedPlace) → Contains now q → Contains old q ⊎ IsStandInPlace s parents q
  pub kept : (q : WeightedPlace) → Contains old q → Contains now q
  pub all : (i : ℕ) (p : Term) → i < end → IsPlace parents i p → (q : WeightedPlace) × Contains now q × (q.node ≡ Blank 0 i)

-- places of all shapes
pub record AreShapePlaces (s : List Triple) (W : Term → ℕ → Type 0) (parents : List Term) (places : List WeightedPlace) : Type 0 where
  pub each : (p : WeightedPlace) → Contains places p → IsPlaceOf s W parents p
  pub all : (n : Term) → IsShape s n → (p : WeightedPlace) × Contains places p × (p.node ≡ n)

-- with those that stand in
pub record ArePlaces (s : List Triple) (W : Term → ℕ → Type 0) (parents : List Term) (places : List WeightedPlace) : Type 0 where
  pub names : HaveNames s parents
  pub each : (p : WeightedPlace) → Contains places p → IsPlaceOf s W parents p ⊎ IsStandInPlace s parents p
  pub all : (n : Term) → IsShape s n → (p : WeightedPlace) × Contains places p × (p.node ≡ n)
  pub named : (p x : Term) → IsName parents p x → (q : WeightedPlace) × Contains places q × (q.node ≡ x)

-- The table has the weights of the shapes, as far as they are counted.
pub record AreWeights (s : List Triple) (W : Term → ℕ → Type 0) (most : ℕ) (table : BTreeMap Term ℕ) : Type 0 where
  pub sound : (n : Term) (v : ℕ) → IsShape s n → entry table n ≡ Some v → (k : ℕ) × Weighs W s n k × (v ≡ capped most k)
  pub all : (n : Term) (k : ℕ) → IsShape s n → Weighs W s n k → entry table n ≡ Some (capped most k)
