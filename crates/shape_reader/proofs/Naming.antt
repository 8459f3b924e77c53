-- The terms of a compiled shape stand in the graph, and the shapes that it names are among the nodes.
use Rattle.std.proofs.Common.{◌≡◌, ℕ, ◌<◌, Bool, true, false, IsTrue, List, [], ◌∷◌, length, map, get_or, Option, Some, None, refl, sym, ap, subst, arith, inl, inr}
use Rattle.std.specs.Prelude.{◌↔◌, MatchOption}
use Rattle.std.specs.List.{All, Contains}
use Rattle.std.specs.Arc.{arc_value}
use Rattle.std.proofs.lemmas.List.Elements.{Contains-get_or}
use Rattle.collections.specs.Listings.{IsListing}
use Rattle.literal_order.specs.Texts.{string_value}
use Rattle.rdf_model.specs.declared.term.Term.{Term}
use Rattle.rdf_model.specs.declared.triple.Triple.{Triple}
use Rattle.rdf_model.specs.Terms.{term_cmp}
use Rattle.shape_model.specs.Paths as defined
use Rattle.shape_model.specs.Patterns.{IsPatternOf}
use Rattle.shape_model.specs.ShapeSyntax.{ListOf, PathOf, PathsOf}
use Rattle.shape_model.specs.Triples.{Has, IsMember}
use Rattle.shape_model.specs.Vocabulary.{rdf_first, rdf_type}
use Rattle.path_ast.specs.declared.path.Path.{Path}
use Rattle.path_ast.specs.PathReadings.{HasEach, HoldsOfAll, HoldsOfEach, defined_path}
use Rattle.path_ast.proofs.Names.{each_named}
use Rattle.shape_syntax.proofs.Items.{get_within}
use Rattle.shape_syntax.proofs.Scans.{contains_member, has_cases}
use Rattle.shape_properties.specs.declared.property.ShapeProperty.{ShapeProperty}
use Rattle.shape_properties.specs.declared.property.ShapeProperty.TheVariants as properties
use Rattle.shape_properties.specs.Properties.{property_iri}
use Rattle.shape_properties.specs.Syntax.{HasProperty, IsShape, Takes}
use Rattle.shape_properties.specs.Table.{role}
use Rattle.shape_properties.specs.declared.table.Role.{Role}
use Rattle.shape_properties.specs.declared.table.Role.TheVariants as roles
use Rattle.shape_ast.specs.declared.constraint.Constraint.{Constraint}
use Rattle.shape_ast.specs.declared.constraint.Constraint.TheVariants.{ByTerm, ByList, ByShape, ByShapes}
use Rattle.shape_ast.specs.declared.pattern.CompiledPattern.{CompiledPattern}
use Rattle.shape_ast.specs.declared.target.Target.{Target}
use Rattle.shape_ast.specs.declared.target.Target.TheVariants.{Node, Class, ImplicitClass, SubjectsOf, ObjectsOf}
use Rattle.shape_ast.specs.Readings.{HoldsOfConstraint, HoldsOfTarget, read_constraint, read_optional, read_optional_path, read_pattern, read_target}
use Rattle.shape_ast.specs.Standing.{HasFlagsText, StandsIn}
use Rattle.shape_reader.specs.declared.kind.Kind.{Kind}
use Rattle.shape_reader.specs.declared.kind.Kind.TheVariants as kinds
use Rattle.shape_reader.specs.Kinds.{kind}
use Rattle.shape_reader.specs.Parts.{ArePlaces, HasOne, HasPlace, HasSibling, IsConstraint, IsFlagsText, IsIgnored, IsKeptPath, IsOff, IsOptionalPattern, IsPathAt, IsPatternAt, IsTarget, IsValue, SaysConstraint}
use Rattle.shape_reader.proofs.Told.{Declares, declared}

abbrev same : Term → Term
same t = t

-- terms that are read as they are
pub map_same : (ts : List Term) → map same ts ≡ ts
map_same [] = refl
map_same (t ∷ ts) = ap (λ (us : List Term). t ∷ us) (map_same ts)

target_same : (x : Target Term) → read_target same x ≡ x
target_same (Node t) = refl
target_same (Class t) = refl
target_same ImplicitClass = refl
target_same (SubjectsOf t) = refl
target_same (ObjectsOf t) = refl

constraint_same : (k : Constraint Term) → read_constraint same k ≡ k
constraint_same (ByTerm component q) = refl
constraint_same (ByList component q members) = ap (ByList component q) (map_same members)
constraint_same (ByShape component q shape) = refl
constraint_same (ByShapes component q shapes) = refl

map_each : {X : Type 0} → (f : X → X) → ((x : X) → f x ≡ x) → (xs : List X) → map f xs ≡ xs
map_each f e [] = refl
map_each f e (x ∷ xs) = let g : f x ≡ x = e x in let h : map f xs ≡ xs = map_each f e xs in cc (g, h)

pub targets_same : (xs : List (Target Term)) → map (read_target same) xs ≡ xs
targets_same xs = map_each (read_target same) target_same xs

pub constraints_same : (ks : List (Constraint Term)) → map (read_constraint same) ks ≡ ks
constraints_same ks = map_each (read_constraint same) constraint_same ks

pub optional_same : (o : Option Term) → read_optional same o ≡ o
optional_same None = refl
optional_same (Some t) = refl

all_of : {X : Type 0} → (P : X → Type 0) (xs : List X) → ((x : X) → Contains xs x → P x) → All P xs
all_of P xs h k d l = h (get_or xs k d) (Contains-get_or xs k d l)

module _ (s : List Triple) (nodes : List Term) where
  abbrev Stands : Term → Type 0
  Stands t = StandsIn s t

  abbrev IsWithin : ℕ → Type 0
  IsWithin k = k < length nodes

  object_stands : (n p v : Term) → Has s n p v → Stands v
  object_stands n p v h = (record { subject = n; predicate = p; object = v }, h, inr (inr refl))

  subject_stands : (n p v : Term) → Has s n p v → Stands n
  subject_stands n p v h = (record { subject = n; predicate = p; object = v }, h, inl refl)

  value_stands : (n : Term) (p : ShapeProperty) (v : Term) → HasProperty s n p v → Stands v
  value_stands n p v h = object_stands n (property_iri p) v h

  members_stand : (head : Term) (ms : List Term) → ListOf s head ms → (t : Term) → IsMember ms t → Stands t
  members_stand head [] l t i = absurd i
  members_stand head (m ∷ ms) l t i = elim i [
    | inl e ↦ subst Stands e (object_stands head rdf_first m l.1.0.0)
    | inr j ↦ members_stand l.0 ms l.2 t j
  ]

  taken_stands : (r : Role) (v t : Term) → Stands v → Takes s r v t → Stands t
  taken_stands roles.DeclaresTargets v t h takes = absurd takes
  taken_stands roles.ExpectsShape v t h takes = subst Stands takes h
  taken_stands roles.TakesShapes v t h takes = members_stand v takes.0 takes.1 t takes.2
  taken_stands roles.Parameter v t h takes = absurd takes
  taken_stands roles.Other v t h takes = absurd takes

  pub shape_stands : (n : Term) → IsShape s n → Stands n
  shape_stands n h = elim h [
    | inl i ↦ subject_stands n rdf_type i.0 i.1
    | inr (inl i) ↦ subject_stands n rdf_type i.0 i.1
    | inr (inr (inl m)) ↦ subject_stands n (property_iri m.0) m.1 m.2
    | inr (inr (inr t)) ↦ taken_stands (role t.1.0) t.1.1 n (value_stands t.0 t.1.0 t.1.1 t.1.2) t.1.3
  ]

  mutual
    path_stands : (v : Term) (p : defined.Path) → Stands v → PathOf s v p → HoldsOfEach Stands p
    path_stands v (defined.Predicate p) h is = subst Stands is.0 h
    path_stands v (defined.Inverse p) h is = path_stands is.0 p (object_stands v _ is.0 is.1.1) is.2
    path_stands v (defined.Sequence ps) h is = paths_stand v ps is.2
    path_stands v (defined.Alternative ps) h is = paths_stand is.0 ps is.3
    path_stands v (defined.ZeroOrMore p) h is = path_stands is.0 p (object_stands v _ is.0 is.1.1) is.2
    path_stands v (defined.OneOrMore p) h is = path_stands is.0 p (object_stands v _ is.0 is.1.1) is.2
    path_stands v (defined.ZeroOrOne p) h is = path_stands is.0 p (object_stands v _ is.0 is.1.1) is.2

    paths_stand : (v : Term) (ps : defined.Paths) → PathsOf s v ps → HoldsOfAll Stands ps
    paths_stand v (defined.Last p) is = path_stands is.0 p (object_stands v rdf_first is.0 is.2.0.0) is.4
    paths_stand v (defined.Also p ps) is = (path_stands is.0 p (object_stands v rdf_first is.0 is.2.0.0) is.3, paths_stand is.1 ps is.4)

  module _ (n : Term) where
    -- a path that is kept is one of the node
    kept_at : (path : defined.Path) (off : Bool) → IsTrue off ↔ IsOff s n → IsKeptPath s n (Some path) → IsPathAt s n path
    kept_at path true is h = (h.deactivated (is.0 refl)).2
    kept_at path false is h = h.active (λ o. let t = is.1 o in cc)

    pub path_named : (found : Option (Path Term)) (off : Bool) → IsTrue off ↔ IsOff s n → IsKeptPath s n (read_optional_path same found) → MatchOption found (Unit {0}) (HasEach Stands)
    path_named None off is h = tt
    path_named (Some path) off is h =
        let k = kept_at (defined_path path) off is h in
        each_named Stands path (path_stands k.0 (defined_path path) (value_stands n properties.Path k.0 k.1) k.2)

    pub value_named : (p : ShapeProperty) (found : Option Term) → IsValue s n p found → MatchOption found (Unit {0}) Stands
    value_named p None h = tt
    value_named p (Some v) h = value_stands n p v h

    pub values_named : (p : ShapeProperty) (vs : List Term) → IsListing term_cmp (HasProperty s n p) vs → All Stands vs
    values_named p vs l = all_of Stands vs (λ v c. value_stands n p v ((l.members v).0 c))

    target_named : (x : Target Term) → Declares s n x → HoldsOfTarget Stands x
    target_named (Node v) h = value_stands n properties.TargetNode v h
    target_named (Class v) h = value_stands n properties.TargetClass v h
    target_named ImplicitClass h = absurd h
    target_named (SubjectsOf v) h = value_stands n properties.TargetSubjectsOf v h
    target_named (ObjectsOf v) h = value_stands n properties.TargetObjectsOf v h

    pub targets_named : (xs : List (Target Term)) → ((x : Target Term) → Contains xs x ↔ IsTarget s nodes n x) → All (HoldsOfTarget Stands) xs
    targets_named xs all = all_of (HoldsOfTarget Stands) xs (λ x c. elim ((all x).0 c) [
      | inl h ↦ target_named x (declared s n h.0 h.1 x h.2 h.3)
      | inr h ↦ subst (λ (y : Target Term). HoldsOfTarget Stands y) h.0 tt
    ])

    places_within : (ps : List ℕ) (ts : List Term) → ArePlaces nodes ps ts → (k : ℕ) → Contains ps k → IsWithin k
    places_within [] ts h k c = absurd (omega arith)
    places_within (p ∷ ps) [] h k c = absurd h
    places_within (p ∷ ps) (t ∷ ts) h k c = elim (has_cases p ps k c) [
      | inl e ↦ subst IsWithin e (get_within nodes p t h.0)
      | inr d ↦ places_within ps ts h.1 k d
    ]

    constraint_named : (a : Kind) (v : Term) (k : Constraint Term) → Stands v → IsConstraint s nodes a v k → HoldsOfConstraint Stands (length nodes) k
    constraint_named (kinds.Term component) v k h is = subst (λ (x : Constraint Term). HoldsOfConstraint Stands (length nodes) x) (sym is) h
    constraint_named (kinds.List component) v k h is = subst (λ (x : Constraint Term). HoldsOfConstraint Stands (length nodes) x) (sym is.2) (h, all_of Stands is.0 (λ t c. members_stand v is.0 is.1 t (contains_member is.0 t c)))
    constraint_named (kinds.Shape component) v k h is = subst (λ (x : Constraint Term). HoldsOfConstraint Stands (length nodes) x) (sym is.2) (h, get_within nodes is.0 v is.1)
    constraint_named (kinds.Shapes component) v k h is = subst (λ (x : Constraint Term). HoldsOfConstraint Stands (length nodes) x) (sym is.2) (h, all_of IsWithin is.0 (places_within is.0 is.1.0 is.1.2))
    constraint_named kinds.Nothing v k h is = absurd is

    pub constraints_named : (ks : List (Constraint Term)) → ((k : Constraint Term) → Contains ks k → (p : ShapeProperty) × (v : Term) × HasProperty s n p v × SaysConstraint s nodes p v k) → All (HoldsOfConstraint Stands (length nodes)) ks
    constraints_named ks all = all_of (HoldsOfConstraint Stands (length nodes)) ks (λ k c. let h = all k c in constraint_named (kind h.0) h.1 k (value_stands n h.0 h.1 h.2) h.3)

    pub pattern_named : (found : Option (CompiledPattern Term)) → IsOptionalPattern s n found → MatchOption found (Unit {0}) (λ p. Stands p.parameter)
    pattern_named None h = tt
    pattern_named (Some p) h = value_stands n properties.Pattern p.parameter h.0

    pub pattern_value : (found : Option (CompiledPattern Term)) → IsOptionalPattern s n found → IsValue s n properties.Pattern (read_pattern same found)
    pattern_value None h = h
    pattern_value (Some p) h = h.0

    pub places_named : (p : ShapeProperty) (ks : List ℕ) → ((k : ℕ) → Contains ks k ↔ HasPlace s nodes n p k) → All IsWithin ks
    places_named p ks all = all_of IsWithin ks (λ k c. let h = (all k).0 c in get_within nodes k h.0 h.2)

    pub siblings_named : (ks : List ℕ) → ((k : ℕ) → Contains ks k ↔ HasSibling s nodes n k) → All IsWithin ks
    siblings_named ks all = all_of IsWithin ks (λ k c. let h = (all k).0 c in get_within nodes k h.0 h.2)

    pub place_named : (p : ShapeProperty) (found : Option ℕ) → ((k : ℕ) → (found ≡ Some k) ↔ HasPlace s nodes n p k) → MatchOption found (Unit {0}) IsWithin
    place_named p None all = tt
    place_named p (Some k) all = let h = (all k).0 refl in get_within nodes k h.0 h.2

    pub ignored_named : (ts : List Term) → ((t : Term) → Contains ts t ↔ IsIgnored s n t) → All Stands ts
    ignored_named ts all = all_of Stands ts (λ t c. let h = (all t).0 c in members_stand h.0 h.2.0 h.2.1 t h.2.2)

    -- the text of the flags
    flags_same : (found : Option Term) → IsValue s n properties.Flags found → HasOne s n properties.Flags → (text : List ℕ) → IsFlagsText s n text → HasFlagsText (read_optional same found) text
    flags_same None h one text is = elim is [ inl q ↦ absurd (h q.0 q.1) | inr none ↦ none.1 ]
    flags_same (Some v) h one text is = elim is [
      | inl q ↦ subst (λ (t : Term). string_value t ≡ Some text) (one q.0 v q.1 h) q.2
      | inr none ↦ absurd (none.0 v h)
    ]

    built_at : (p : CompiledPattern Term) (flags : Option Term) → IsPatternAt s n p → IsValue s n properties.Flags flags → HasOne s n properties.Flags → (text : List ℕ) × HasFlagsText (read_optional same flags) text × IsPatternOf p.parameter text (arc_value p.regex)
    built_at p flags h value one = (h.1.0, flags_same flags value one h.1.0 h.1.1, h.1.2)

    pub pattern_built : (found : Option (CompiledPattern Term)) (flags : Option Term) → IsOptionalPattern s n found → IsValue s n properties.Flags flags → HasOne s n properties.Flags
        → MatchOption found (Unit {0}) (λ p. (text : List ℕ) × HasFlagsText (read_optional same flags) text × IsPatternOf (same p.parameter) text (arc_value p.regex))
    pattern_built None flags h value one = tt
    pattern_built (Some p) flags h value one = built_at p flags h value one
