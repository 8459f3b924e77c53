-- How the looks of paths are found: by totals over places, one for each value that may stand for a path and does.
use Rattle.std.specs.Prelude.{◌≡◌, ◌≢◌, ◌⊎◌, ◌↔◌, ℕ, List, [], ◌∷◌, Some, codes}
use Rattle.std.specs.List.{Contains}
use Rattle.std.specs.BTreeMap.{BTreeMap}
use Rattle.rdf_model.specs.declared.term.Term.{Term}
use Rattle.rdf_model.specs.declared.triple.Triple.{Triple}
use Rattle.shape_model.specs.Vocabulary.{rdf_first, sh}
use Rattle.shape_model.specs.Triples.{Has, IsIri}
use Rattle.shape_model.specs.Paths.{Path}
use Rattle.shape_model.specs.ShapeSyntax.{ListOf, PathOf}
use Rattle.shape_syntax.specs.Gathering.{Gives}
use Rattle.shape_syntax.specs.PathDepth.{IsDeep}
use Rattle.shape_syntax.specs.PathNodes.{IsPath}
use Rattle.shape_syntax.specs.PathSteps.{ModifiesPath}
use Rattle.reference_totals.specs.declared.place.WeightedPlace.{WeightedPlace}
use Rattle.reference_totals.specs.Totals.{capped, entry}
use Rattle.shape_properties.specs.declared.property.ShapeProperty.TheVariants as properties
use Rattle.shape_properties.specs.Properties.{property_iri}
use Rattle.shape_model.specs.Limits.{looks_limit}
use Rattle.shape_sizes.specs.Sizes.{AreMembersAt, IsLookWeight, looks_of}

-- values of sh:path, members of lists, and what a property makes another path of may stand for paths
abbrev pub LeadsToPath : Term → Type 0
LeadsToPath p = (p ≡ property_iri properties.Path) ⊎ ((p ≡ rdf_first) ⊎ ModifiesPath p)

-- the node is a value of such a property
abbrev pub MayBePath : List Triple → Term → Type 0
MayBePath s n = (t : Triple) × Contains s t × LeadsToPath t.predicate × (t.object ≡ n)

-- what the value of a property at a path's node makes of it: the members of the list of an alternative, or the value
abbrev pub IsMadeBy : List Triple → Term → Term → List Term → Type 0
IsMadeBy s p m to = ((p ≡ sh (codes "alternativePath")) × AreMembersAt s m to) ⊎ ((p ≢ sh (codes "alternativePath")) × (to ≡ m ∷ []))

-- The nodes of whose paths that of a blank node is made: the members of the list of which it is the head, or what one of
-- its triples makes of it.
abbrev pub IsMadeOf : List Triple → Term → List Term → Type 0
IsMadeOf s n to =
    ListOf s n to
    ⊎ ((((xs : List Term) → ListOf s n xs → ⊥) × ((p : Term) × (m : Term) × Has s n p m × IsMadeBy s p m to))
    ⊎ (((p m : Term) → Has s n p m → ⊥) × (to ≡ [])))

-- the place of a node that stands for a path: an IRI has one look
abbrev pub IsPathPlace : List Triple → WeightedPlace → Type 0
IsPathPlace s p = IsPath s p.node × ((IsIri p.node × (p.own ≡ 1) × (p.to ≡ [])) ⊎ ((IsIri p.node → ⊥) × (p.own ≡ 0) × IsMadeOf s p.node p.to))

-- places of all those that do
pub record ArePathPlaces (s : List Triple) (places : List WeightedPlace) : Type 0 where
  pub each : (p : WeightedPlace) → Contains places p → IsPathPlace s p
  pub all : (n : Term) → MayBePath s n → IsPath s n → (p : WeightedPlace) × Contains places p × (p.node ≡ n)

-- The table has the looks of the paths for which they stand, as far as they are counted.
pub record ArePathLooks (s : List Triple) (most : ℕ) (table : BTreeMap Term ℕ) : Type 0 where
  pub sound : (n : Term) (v : ℕ) → entry table n ≡ Some v → (q : Path) × PathOf s n q × (v ≡ capped most (looks_of q))
  pub all : (n : Term) (q : Path) → MayBePath s n → PathOf s n q → (v : ℕ) × (entry table n ≡ Some v)

-- the nodes are those, of these values, that stand for paths that are deeper than this
abbrev pub AreDeepPaths : List Triple → ℕ → List Term → Type 0
AreDeepPaths s levels nodes = (n : Term) → MayBePath s n → Contains nodes n ↔ IsDeep s n levels

-- a step from a node to one of those of whose paths its path is made; what stands as its predicate tells nothing
abbrev pub IsStep : Term → Term → Triple → Type 0
IsStep from to t = t ≡ record { subject = from; predicate = from; object = to }

abbrev pub IsStepOf : WeightedPlace → Triple → Type 0
IsStepOf p t = Gives (IsStep p.node) p.to t

-- the steps of all the places
abbrev pub ArePlaceSteps : List WeightedPlace → List Triple → Type 0
ArePlaceSteps places steps = (t : Triple) → Contains steps t ↔ Gives IsStepOf places t

-- the own looks of a shape, as far as they are counted
abbrev pub IsCappedLook : List Triple → Term → ℕ → Type 0
IsCappedLook s n w = (k : ℕ) × IsLookWeight s n k × (w ≡ capped looks_limit k)
