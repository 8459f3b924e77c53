-- How much the results of a shape may ask for: its size (rule 42) and its looks (rule 40).
use Rattle.std.specs.Prelude.{◌≡◌, ◌⊎◌, ◌+◌, ◌*◌, ◌<◌, ℕ, zero, suc, List, [], ◌∷◌, ◌++◌, length}
use Rattle.collections.specs.Listings.{IsListing}
use Rattle.rdf_model.specs.declared.term.Term.{Term}
use Rattle.rdf_model.specs.declared.triple.Triple.{Triple}
use Rattle.rdf_model.specs.Terms.{term_cmp}
use Rattle.shape_model.specs.Vocabulary.{rdfs_class, true_literal}
use Rattle.shape_model.specs.Instances.{Instance}
use Rattle.shape_model.specs.Limits.{looks_limit}
use Rattle.shape_model.specs.Declarations.{values_of}
use Rattle.shape_model.specs.Paths.{Path, Predicate, Inverse, Sequence, Alternative, ZeroOrMore, OneOrMore, ZeroOrOne, Paths, Last, Also}
use Rattle.shape_model.specs.Readings.{Sibling}
use Rattle.shape_model.specs.ShapeSyntax.{ListOf, PathOf}
use Rattle.reference_totals.specs.Totals.{SumBy}
use Rattle.shape_properties.specs.declared.property.ShapeProperty.{ShapeProperty}
use Rattle.shape_properties.specs.declared.property.ShapeProperty.TheVariants as properties
use Rattle.shape_properties.specs.Properties.{property_iri}
use Rattle.shape_properties.specs.Syntax.{HasProperty}

-- the values of the property at the node, each once
abbrev pub values : List Triple → Term → ShapeProperty → List Term
values s n p = values_of s n (property_iri p)

-- sh:deactivated is true (SHACL 2.1.6)
abbrev pub IsDeactivated : List Triple → Term → Type 0
IsDeactivated s n = HasProperty s n properties.Deactivated true_literal

-- the members of the list at the head, as often as they stand there; none where it is the head of no list
abbrev pub AreMembersAt : List Triple → Term → List Term → Type 0
AreMembersAt s head ms = ListOf s head ms ⊎ (((xs : List Term) → ListOf s head xs → ⊥) × (ms ≡ []))

-- those of the lists at all the heads, list after list
abbrev pub AreMembersOf : List Triple → List Term → List Term → Type 0
AreMembersOf s [] ms = ms ≡ []
AreMembersOf s (head ∷ heads) ms = (first : List Term) × (others : List Term) × AreMembersAt s head first × AreMembersOf s heads others × (ms ≡ first ++ others)

-- a qualified count, without which a qualified value shape is no constraint (SHACL 4.7.3)
abbrev pub HasQualifiedCount : List Triple → Term → Type 0
HasQualifiedCount s n = (v : Term) × (HasProperty s n properties.QualifiedMinCount v ⊎ HasProperty s n properties.QualifiedMaxCount v)

-- the qualified value shape and each sibling, where there is such a count
abbrev pub AreQualified : List Triple → Term → List Term → Type 0
AreQualified s n ms =
    (HasQualifiedCount s n × ((siblings : List Term) × IsListing term_cmp (Sibling s n) siblings × (ms ≡ values s n properties.QualifiedValueShape ++ siblings)))
    ⊎ ((HasQualifiedCount s n → ⊥) × (ms ≡ []))

-- The shapes on whose results those of the shape rest (SHACL 3.4.3, 4.6 and 4.7), each as often as it counts: the values
-- of sh:not, sh:node and sh:property, the members of the lists of sh:and, sh:or and sh:xone, and the qualified ones.
abbrev pub AreCounted : List Triple → Term → List Term → Type 0
AreCounted s n ms = (members : List Term) × (qualified : List Term)
    × AreMembersOf s (values s n properties.And ++ values s n properties.Or ++ values s n properties.Xone) members
    × AreQualified s n qualified
    × (ms ≡ values s n properties.Not ++ values s n properties.Node ++ values s n properties.Property ++ members ++ qualified)

-- none where it is deactivated
abbrev pub AreReferred : List Triple → Term → List Term → Type 0
AreReferred s n ms = (IsDeactivated s n × (ms ≡ [])) ⊎ ((IsDeactivated s n → ⊥) × AreCounted s n ms)

-- A shape weighs k, by chains of fewer references than this number: its own weight, and those of the shapes to which it
-- refers, each as often as it counts. W gives own weights.
abbrev pub WeighsBy : (Term → ℕ → Type 0) → List Triple → ℕ → Term → ℕ → Type 0
WeighsBy W s zero n k = ⊥
WeighsBy W s (suc depth) n k = (own : ℕ) × (ms : List Term) × (sum : ℕ) × W n own × AreReferred s n ms × SumBy (WeighsBy W s depth) ms sum × (k ≡ own + sum)

abbrev pub Weighs : (Term → ℕ → Type 0) → List Triple → Term → ℕ → Type 0
Weighs W s n k = (depth : ℕ) × WeighsBy W s depth n k

-- the size of a shape: each counts one
abbrev pub IsSize : List Triple → Term → ℕ → Type 0
IsSize s n k = Weighs (λ m w. w ≡ 1) s n k

-- The looks of a path: one for each predicate in it.
abbrev mutual
  pub looks_of : Path → ℕ
  looks_of (Predicate p) = 1
  looks_of (Inverse p) = looks_of p
  looks_of (Sequence ps) = looks_of_all ps
  looks_of (Alternative ps) = looks_of_all ps
  looks_of (ZeroOrMore p) = looks_of p
  looks_of (OneOrMore p) = looks_of p
  looks_of (ZeroOrOne p) = looks_of p

  pub looks_of_all : Paths → ℕ
  looks_of_all (Last p) = looks_of p
  looks_of_all (Also p ps) = looks_of p + looks_of_all ps

-- those of the path for which a node stands; none where it stands for none
abbrev pub HasPathLooks : List Triple → Term → ℕ → Type 0
HasPathLooks s v k = ((p : Path) × PathOf s v p × (k ≡ looks_of p)) ⊎ (((p : Path) → PathOf s v p → ⊥) × (k ≡ 0))

-- so many where this holds, and else none
abbrev pub CountsIf : Type 0 → ℕ → ℕ → Type 0
CountsIf P n k = (P × (k ≡ n)) ⊎ ((P → ⊥) × (k ≡ 0))

-- The looks of a shape that isn't deactivated, without those of the shapes to which it refers: those of its path, two for
-- each sh:class, one for each property that is compared (SHACL 4.5), one where it is closed.
abbrev pub HasOwnLooks : List Triple → Term → ℕ → Type 0
HasOwnLooks s n k = (path : ℕ) × (closed : ℕ)
    × SumBy (HasPathLooks s) (values s n properties.Path) path
    × CountsIf (HasProperty s n properties.Closed true_literal) 1 closed
    × (k ≡ path + 2 * length (values s n properties.Class)
    + length (values s n properties.Equals) + length (values s n properties.Disjoint)
    + length (values s n properties.LessThan) + length (values s n properties.LessThanOrEquals) + closed)

-- none where it is deactivated
abbrev pub IsLookWeight : List Triple → Term → ℕ → Type 0
IsLookWeight s n k = (IsDeactivated s n × (k ≡ 0)) ⊎ ((IsDeactivated s n → ⊥) × HasOwnLooks s n k)

-- The looks of its targets, deactivated or not: two for each sh:targetClass and where the shape is an implicit class
-- target, one for each sh:targetSubjectsOf and sh:targetObjectsOf.
abbrev pub HasTargetLooks : List Triple → Term → ℕ → Type 0
HasTargetLooks s n k = (implicit : ℕ) × CountsIf (Instance s n rdfs_class) 2 implicit
    × (k ≡ 2 * length (values s n properties.TargetClass) + implicit
    + length (values s n properties.TargetSubjectsOf) + length (values s n properties.TargetObjectsOf))

-- the looks of a shape, with those of its targets
abbrev pub HasLooks : List Triple → Term → ℕ → Type 0
HasLooks s n k = (results : ℕ) × (targets : ℕ) × Weighs (IsLookWeight s) s n results × HasTargetLooks s n targets × (k ≡ results + targets)

-- A shape of a greater size is too large. It is unfoldable, so that no proof counts so far.
unfoldable pub size_limit : ℕ
size_limit = 65536

abbrev pub IsTooLarge : List Triple → Term → Type 0
IsTooLarge s n = (k : ℕ) × IsSize s n k × (size_limit < k)

-- A shape with more looks than the limit has too many.
abbrev pub HasTooManyLooks : List Triple → Term → Type 0
HasTooManyLooks s n = (k : ℕ) × HasLooks s n k × (looks_limit < k)
