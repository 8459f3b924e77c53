-- Shapes whose parts are what the triples say of their nodes stand for the graph.
use Rattle.std.proofs.Common.{◌≡◌, ◌∙◌, ℕ, List, [], ◌∷◌, map, get_or, Bool, true, false, Option, Some, None, IsTrue, refl, sym, ap, subst, arith, inl, inr}
use Rattle.std.specs.Prelude.{◌↔◌, ◌⊎◌, codes, slice_get}
use Rattle.std.specs.List.{Contains}
use Rattle.std.specs.Option.{unwrap_or}
use Rattle.std.proofs.lemmas.List.Elements.{Contains-get_or}
use Rattle.collections.specs.Listings.{IsListing}
use Rattle.collections.specs.Ordered.{AllAbove, IsAscending}
use Rattle.rdf_model.specs.declared.term.Term.{Term}
use Rattle.rdf_model.specs.declared.triple.Triple.{Triple}
use Rattle.rdf_model.specs.Orders.{term_total}
use Rattle.rdf_model.specs.Terms.{term_cmp}
use Rattle.shape_model.proofs.Declarations.{values_law}
use Rattle.shape_model.proofs.Listings.{one_listing}
use Rattle.shape_model.specs.Declarations.{first_or, messages_of, values_of}
use Rattle.shape_model.specs.Paths.{Path, Predicate}
use Rattle.shape_model.specs.Readings.{IsAllowed, IsAsked, IsNodeShape, ShapePath, Sibling, reading}
use Rattle.shape_model.specs.ShapeSyntax.{HasProperty, IsShape, ListOf, PathOf, TakesMembers}
use Rattle.shape_model.specs.Triples.{Has}
use Rattle.shape_model.specs.Vocabulary.{ShapeProperty, sh, ShClass, ShDatatype, ShNodeKind, ShMinCount, ShMaxCount, ShMinExclusive, ShMinInclusive, ShMaxExclusive, ShMaxInclusive, ShMinLength, ShMaxLength, ShPattern, ShFlags, ShLanguageIn, ShUniqueLang, ShEquals, ShDisjoint, ShLessThan, ShLessThanOrEquals, ShNot, ShAnd, ShOr, ShXone, ShNode, ShProperty, ShQualifiedValueShape, ShQualifiedMinCount, ShQualifiedMaxCount, ShQualifiedValueShapesDisjoint, ShClosed, ShIgnoredProperties, ShHasValue, ShIn, ShDeactivated, ShPath, ShTargetNode, ShTargetClass, ShTargetSubjectsOf, ShTargetObjectsOf}
use Rattle.shape_syntax.proofs.Items.{get_in, get_map, map_get, place_in}
use Rattle.shape_syntax.proofs.Scans.{contains_member, image_from, image_of, member_contains}
use Rattle.shape_properties.specs.declared.property.ShapeProperty.{ShapeProperty as RuleProperty}
use Rattle.shape_properties.specs.declared.property.ShapeProperty.TheVariants as properties
use Rattle.shape_rules.specs.Broken.{IsWellFormed}
use Rattle.shape_properties.specs.Syntax.{Takes, HasProperty as HasRuleProperty, IsShape as IsRuleShape}
use Rattle.shape_properties.specs.Table.{role, takes_one}
use Rattle.shape_syntax.proofs.OnePath.{one_path}
use Rattle.shape_ast.specs.declared.component.TermComponent.TheVariants as by_term
use Rattle.shape_ast.specs.declared.component.ListComponent.TheVariants as by_list
use Rattle.shape_ast.specs.declared.component.ShapeComponent.TheVariants as by_shape
use Rattle.shape_ast.specs.declared.component.ShapesComponent.TheVariants as by_shapes
use Rattle.shape_ast.specs.declared.constraint.Constraint.{Constraint}
use Rattle.shape_ast.specs.declared.constraint.Constraint.TheVariants.{ByTerm, ByList, ByShape, ByShapes}
use Rattle.shape_ast.specs.declared.target.Target.{Target}
use Rattle.shape_ast.specs.declared.target.Target.TheVariants.{Node, Class, ImplicitClass, SubjectsOf, ObjectsOf}
use Rattle.shape_ast.specs.Readings.{ReadShape}
use Rattle.shape_ast.specs.Standing.{AreAt, HasMembers, IsAt, IsFor, IsLinked, IsPredicate, SameShape, ShapeAllows, ShapeHas, StandFor, shape_cmp, shape_reading}
use Rattle.shape_reader.specs.declared.kind.Kind.{Kind}
use Rattle.shape_reader.specs.declared.kind.Kind.TheVariants as kinds
use Rattle.shape_reader.specs.Kinds.{kind}
use Rattle.shape_reader.specs.Parts.{ArePlaces, HasOne, HasPlace, IsCompiled, IsConstraint, IsKeptPath, IsOff, IsOptionalPath, IsOptionalPredicate, IsPlace, IsValue, SaysConstraint}
use Rattle.shape_properties.proofs.Defined.{has_same, rule_property, shape_same, taken_same}
use Rattle.shape_reader.proofs.Places.{all_places}
use Rattle.shape_reader.proofs.Told.{Declares, declared, same_parameter, same_property}
use Rattle.shape_reader.proofs.WellFormed.{list_of}
use Rattle.shape_rules.proofs.SingleValues.{one_value}

abbrev pub node_of : ReadShape → Term
node_of c = c.node

above_nodes : (c : ReadShape) (cs : List ReadShape) → AllAbove term_cmp c.node (map node_of cs) → AllAbove shape_cmp c cs
above_nodes c [] a = tt
above_nodes c (d ∷ cs) a = (a.0, above_nodes c cs a.1)

ascending_nodes : (cs : List ReadShape) → IsAscending term_cmp (map node_of cs) → IsAscending shape_cmp cs
ascending_nodes [] a = tt
ascending_nodes (c ∷ cs) a = (above_nodes c cs a.0, ascending_nodes cs a.1)

-- what a single value says
value_same : (s : List Triple) (n : Term) (p : RuleProperty) (found : Option Term) → HasOne s n p → IsValue s n p found → (v : Term) → HasRuleProperty s n p v ↔ (found ≡ Some v)
value_same s n p None one h v = (λ k. absurd (h v k), λ e. cc)
value_same s n p (Some w) one h v = (λ k. ap Some (one w v h k), λ e. let d : w ≡ v = cc in subst (λ (u : Term). HasRuleProperty s n p u) d h)

first_same : (s : List Triple) (n d : Term) (p : RuleProperty) (found : Option Term) (vs : List Term) → HasOne s n p → IsValue s n p found → ((v : Term) → Contains vs v ↔ HasRuleProperty s n p v) → unwrap_or found d ≡ first_or d vs
first_same s n d p None [] one h all = refl
first_same s n d p None (v ∷ vs) one h all = absurd (h v ((all v).0 (0, omega arith, refl)))
first_same s n d p (Some w) [] one h all = absurd (let k = (all w).1 h in let l = k.1 in omega arith)
first_same s n d p (Some w) (v ∷ vs) one h all = one w v h ((all v).0 (0, omega arith, refl))

-- what a path says
path_some : (s : List Triple) (n : Term) (found : Option Path) → HasOne s n properties.Path → IsOptionalPath s n found → (p : Path) → ShapePath s n p ↔ (found ≡ Some p)
path_some s n None one h p = (λ k. absurd (h k.0 k.1), λ e. cc)
path_some s n (Some q) one h p = (
  λ k. ap Some (one_path s h.0 p q (subst (λ (v : Term). PathOf s v p) (one k.0 h.0 k.1 h.1) k.2) h.2),
  λ e. let d : q ≡ p = cc in (h.0, h.1, subst (λ (r : Path). PathOf s h.0 r) d h.2),
)

-- what the path of a deactivated shape says
predicate_some : (s : List Triple) (n : Term) (found : Option Path) → HasOne s n properties.Path → IsOptionalPredicate s n found → (p : Term) → ShapePath s n (Predicate p) ↔ (found ≡ Some (Predicate p))
predicate_some s n None one h p = (λ k. absurd (h p k), λ e. cc)
predicate_some s n (Some q) one h p = (
  λ k. ap Some (one_path s h.2.0 (Predicate p) q (subst (λ (v : Term). PathOf s v (Predicate p)) (one k.0 h.2.0 k.1 h.2.1) k.2) h.2.2),
  λ e. let d : q ≡ Predicate p = cc in (h.2.0, h.2.1, subst (λ (r : Path). PathOf s h.2.0 r) d h.2.2),
)

-- what is kept of a path says
path_kept : (s : List Triple) (n : Term) (found : Option Path) → HasOne s n properties.Path → IsKeptPath s n found → (off : Bool) → IsTrue off ↔ IsOff s n → (p : Path) → (IsOff s n → IsPredicate p) → ShapePath s n p ↔ (found ≡ Some p)
path_kept s n found one kept true is p may =
    let q = may (is.0 refl) in
    subst (λ (r : Path). ShapePath s n r ↔ (found ≡ Some r)) (sym q.1) (predicate_some s n found one (kept.deactivated (is.0 refl)) q.0)
path_kept s n found one kept false is p may = path_some s n found one (kept.active (λ o. let t = is.1 o in cc)) p

path_none : (s : List Triple) (n : Term) (found : Option Path) → IsOptionalPath s n found → IsNodeShape s n ↔ (found ≡ None)
path_none s n None h = (λ i. refl, λ e. h)
path_none s n (Some p) h = (λ i. absurd (i h.0 h.1), λ e. cc)

same_terms : (nodes : List Term) (ps : List ℕ) (ts us : List Term) → ArePlaces nodes ps ts → ArePlaces nodes ps us → ts ≡ us
same_terms nodes [] [] [] h k = refl
same_terms nodes [] [] (u ∷ us) h k = absurd k
same_terms nodes [] (t ∷ ts) us h k = absurd h
same_terms nodes (p ∷ ps) [] us h k = absurd h
same_terms nodes (p ∷ ps) (t ∷ ts) [] h k = absurd k
same_terms nodes (p ∷ ps) (t ∷ ts) (u ∷ us) h k =
    let d : Some t ≡ Some u = sym h.0 ∙ k.0 in
    let e : t ≡ u = cc in
    let f : ts ≡ us = same_terms nodes ps ts us h.1 k.1 in
    cc (e, f)

module _ (s : List Triple) (well : IsWellFormed s) (shapes : List ReadShape) (nodes : List Term) (listing : IsListing term_cmp (IsShape s) nodes) (same : map node_of shapes ≡ nodes) (compiled : (c : ReadShape) → Contains shapes c → IsCompiled s nodes c) where
  is_shape : (c : ReadShape) → Contains shapes c → IsShape s c.node
  is_shape c i = (listing.members c.node).0 (subst (λ (ns : List Term). Contains ns c.node) same (member_contains (map node_of shapes) c.node (image_of node_of shapes c c.node i refl)))

  at_place : (k : ℕ) (t : Term) → IsPlace nodes k t → IsAt shapes k t
  at_place k t e = get_map node_of shapes k t (subst (λ (ns : List Term). slice_get ns k ≡ Some t) (sym same) e)

  place_at : (k : ℕ) (t : Term) → IsAt shapes k t → IsPlace nodes k t
  place_at k t h = subst (λ (ns : List Term). slice_get ns k ≡ Some t) same (map_get node_of shapes k h.0 h.1 ∙ ap Some h.2)

  at_places : (ps : List ℕ) (ts : List Term) → ArePlaces nodes ps ts → AreAt shapes ps ts
  at_places [] [] h = tt
  at_places [] (t ∷ ts) h = absurd h
  at_places (p ∷ ps) [] h = absurd h
  at_places (p ∷ ps) (t ∷ ts) h = (at_place p t h.0, at_places ps ts h.1)

  places_at : (ps : List ℕ) (ts : List Term) → AreAt shapes ps ts → ArePlaces nodes ps ts
  places_at [] [] h = tt
  places_at [] (t ∷ ts) h = absurd h
  places_at (p ∷ ps) [] h = absurd h
  places_at (p ∷ ps) (t ∷ ts) h = (place_at p t h.0, places_at ps ts h.1)

  shape_place : (t : Term) → IsShape s t → (k : ℕ) × IsPlace nodes k t
  shape_place t h = place_in nodes t ((listing.members t).1 h)

  -- what the node takes as a shape has a place
  taken_place : (n t v : Term) (p : RuleProperty) → HasRuleProperty s n p v → Takes s (role p) v t → (k : ℕ) × IsPlace nodes k t
  taken_place n t v p h takes = shape_place t (inr (inr (inr ((taken_same s t).0 (n, (p, v, h, takes))))))

  -- at a place that stands for some values of a property
  place_same : (n : Term) (p : RuleProperty) (v : Term) (ks : List ℕ) → ((k : ℕ) → Contains ks k ↔ HasPlace s nodes n p k) → (HasRuleProperty s n p v → (k : ℕ) × IsPlace nodes k v)
      → HasRuleProperty s n p v ↔ ((k : ℕ) × Contains ks k × IsAt shapes k v)
  place_same n p v ks all find = (
    λ h. let k = find h in (k.0, (all k.0).1 (v, h, k.1), at_place k.0 v k.1),
    λ d. let w = (all d.0).0 d.1 in
        let both : Some w.0 ≡ Some v = sym w.2 ∙ place_at d.0 v d.2 in
        let e : w.0 ≡ v = cc in subst (λ (u : Term). HasRuleProperty s n p u) e w.1,
  )

  -- a constraint of the shape tells a value of its parameter
  told : (c : ReadShape) → Contains shapes c → (p : ShapeProperty) (v : Term) (k : Constraint Term) → Contains c.constraints k → IsFor p v k → HasProperty s c.node p v
  told c i p v k d for =
      let h = ((compiled c i).constraints k).0 d in
      let e : rule_property p ≡ h.0 = ap rule_property (sym for.0) ∙ same_property s nodes h.0 h.1 k h.3 in
      let f : h.1 ≡ v = sym (same_parameter s nodes (kind h.0) h.1 k h.3) ∙ for.1 in
      (has_same s c.node p v).0 (subst (λ (q : RuleProperty). HasRuleProperty s c.node q v) (sym e) (subst (λ (w : Term). HasRuleProperty s c.node h.0 w) f h.2))

  -- the constraint that a value says
  abbrev Made : ShapeProperty → Term → Type 0
  Made p v = (k : Constraint Term) × SaysConstraint s nodes (rule_property p) v k × IsFor p v k

  constraint_same : (c : ReadShape) → Contains shapes c → (p : ShapeProperty) (v : Term) → (HasProperty s c.node p v → Made p v)
      → HasProperty s c.node p v ↔ ((k : Constraint Term) × Contains c.constraints k × IsFor p v k)
  constraint_same c i p v make = (
    λ h. let m = make h in (m.0, ((compiled c i).constraints m.0).1 (rule_property p, v, (has_same s c.node p v).1 h, m.1), m.2),
    λ d. told c i p v d.0 d.1 d.2,
  )

  module _ (c : ReadShape) (i : Contains shapes c) where
    abbrev n : Term
    n = c.node

    rule_shape : IsRuleShape s n
    rule_shape = (shape_same s n).1 (is_shape c i)

    one : (p : RuleProperty) → IsTrue (takes_one p) → HasOne s n p
    one p takes = one_value s well n rule_shape p takes

    -- the targets
    target_told : (x : Target Term) → Contains c.targets x → Declares s n x ⊎ (ImplicitClass ≡ x)
    target_told x d = elim (((compiled c i).targets x).0 d) [
      | inl h ↦ inl (declared s n h.0 h.1 x h.2 h.3)
      | inr h ↦ inr h.0
    ]

    has_same_at : (p : ShapeProperty) (v : Term) → IsAsked p v → HasProperty s n p v ↔ ShapeHas shapes c p v
    has_same_at ShClass v a = constraint_same c i ShClass v (λ h. (ByTerm by_term.Class v, refl, (refl, refl)))
    has_same_at ShDatatype v a = constraint_same c i ShDatatype v (λ h. (ByTerm by_term.Datatype v, refl, (refl, refl)))
    has_same_at ShNodeKind v a = constraint_same c i ShNodeKind v (λ h. (ByTerm by_term.NodeKind v, refl, (refl, refl)))
    has_same_at ShMinCount v a = constraint_same c i ShMinCount v (λ h. (ByTerm by_term.MinCount v, refl, (refl, refl)))
    has_same_at ShMaxCount v a = constraint_same c i ShMaxCount v (λ h. (ByTerm by_term.MaxCount v, refl, (refl, refl)))
    has_same_at ShMinExclusive v a = constraint_same c i ShMinExclusive v (λ h. (ByTerm by_term.MinExclusive v, refl, (refl, refl)))
    has_same_at ShMinInclusive v a = constraint_same c i ShMinInclusive v (λ h. (ByTerm by_term.MinInclusive v, refl, (refl, refl)))
    has_same_at ShMaxExclusive v a = constraint_same c i ShMaxExclusive v (λ h. (ByTerm by_term.MaxExclusive v, refl, (refl, refl)))
    has_same_at ShMaxInclusive v a = constraint_same c i ShMaxInclusive v (λ h. (ByTerm by_term.MaxInclusive v, refl, (refl, refl)))
    has_same_at ShMinLength v a = constraint_same c i ShMinLength v (λ h. (ByTerm by_term.MinLength v, refl, (refl, refl)))
    has_same_at ShMaxLength v a = constraint_same c i ShMaxLength v (λ h. (ByTerm by_term.MaxLength v, refl, (refl, refl)))
    has_same_at ShPattern v a = value_same s n properties.Pattern c.pattern (one properties.Pattern refl) (compiled c i).pattern v
    has_same_at ShFlags v a = value_same s n properties.Flags c.flags (one properties.Flags refl) (compiled c i).flags v
    has_same_at ShLanguageIn v a = constraint_same c i ShLanguageIn v (λ h. let l = list_of s well n rule_shape properties.LanguageIn refl v h in (ByList by_list.LanguageIn v l.0, (l.0, l.1, refl), (refl, refl)))
    has_same_at ShUniqueLang v a = constraint_same c i ShUniqueLang v (λ h. (ByTerm by_term.UniqueLang v, refl, (refl, refl)))
    has_same_at ShEquals v a = constraint_same c i ShEquals v (λ h. (ByTerm by_term.Equals v, refl, (refl, refl)))
    has_same_at ShDisjoint v a = constraint_same c i ShDisjoint v (λ h. (ByTerm by_term.Disjoint v, refl, (refl, refl)))
    has_same_at ShLessThan v a = constraint_same c i ShLessThan v (λ h. (ByTerm by_term.LessThan v, refl, (refl, refl)))
    has_same_at ShLessThanOrEquals v a = constraint_same c i ShLessThanOrEquals v (λ h. (ByTerm by_term.LessThanOrEquals v, refl, (refl, refl)))
    has_same_at ShNot v a = constraint_same c i ShNot v (λ h. let k = taken_place n v v properties.Not h refl in (ByShape by_shape.Not v k.0, (k.0, k.1, refl), (refl, refl)))
    has_same_at ShAnd v a = constraint_same c i ShAnd v (λ h. let l = list_of s well n rule_shape properties.And refl v h in let ps = all_places nodes l.0 (λ t m. taken_place n t v properties.And h (l.0, l.1, m)) in (ByShapes by_shapes.And v ps.0, (ps.0, (l.0, l.1, ps.1), refl), (refl, refl)))
    has_same_at ShOr v a = constraint_same c i ShOr v (λ h. let l = list_of s well n rule_shape properties.Or refl v h in let ps = all_places nodes l.0 (λ t m. taken_place n t v properties.Or h (l.0, l.1, m)) in (ByShapes by_shapes.Or v ps.0, (ps.0, (l.0, l.1, ps.1), refl), (refl, refl)))
    has_same_at ShXone v a = constraint_same c i ShXone v (λ h. let l = list_of s well n rule_shape properties.Xone refl v h in let ps = all_places nodes l.0 (λ t m. taken_place n t v properties.Xone h (l.0, l.1, m)) in (ByShapes by_shapes.Xone v ps.0, (ps.0, (l.0, l.1, ps.1), refl), (refl, refl)))
    has_same_at ShNode v a = constraint_same c i ShNode v (λ h. let k = taken_place n v v properties.Node h refl in (ByShape by_shape.Node v k.0, (k.0, k.1, refl), (refl, refl)))
    has_same_at ShProperty v a = place_same n properties.Property v c.properties (compiled c i).properties (λ h. taken_place n v v properties.Property h refl)
    has_same_at ShQualifiedValueShape v a = (
      λ h. let k = taken_place n v v properties.QualifiedValueShape h refl in (k.0, ((compiled c i).qualified k.0).1 (v, h, k.1), at_place k.0 v k.1),
      λ d. let w = ((compiled c i).qualified d.0).0 d.1 in
          let both : Some w.0 ≡ Some v = sym w.2 ∙ place_at d.0 v d.2 in
          let e : w.0 ≡ v = cc in subst (λ (u : Term). HasProperty s n ShQualifiedValueShape u) e w.1,
    )
    has_same_at ShQualifiedMinCount v a = constraint_same c i ShQualifiedMinCount v (λ h. (ByTerm by_term.QualifiedMinCount v, refl, (refl, refl)))
    has_same_at ShQualifiedMaxCount v a = constraint_same c i ShQualifiedMaxCount v (λ h. (ByTerm by_term.QualifiedMaxCount v, refl, (refl, refl)))
    has_same_at ShQualifiedValueShapesDisjoint v a = absurd a
    has_same_at ShClosed v a = constraint_same c i ShClosed v (λ h. (ByTerm by_term.Closed v, refl, (refl, refl)))
    has_same_at ShIgnoredProperties v a = absurd a
    has_same_at ShHasValue v a = constraint_same c i ShHasValue v (λ h. (ByTerm by_term.HasValue v, refl, (refl, refl)))
    has_same_at ShIn v a = constraint_same c i ShIn v (λ h. let l = list_of s well n rule_shape properties.In refl v h in (ByList by_list.In v l.0, (l.0, l.1, refl), (refl, refl)))
    has_same_at ShDeactivated v a = (
      λ h. ((compiled c i).is_deactivated.1 (subst (λ (u : Term). HasProperty s n ShDeactivated u) a h), a),
      λ d. subst (λ (u : Term). HasProperty s n ShDeactivated u) (sym d.1) ((compiled c i).is_deactivated.0 d.0),
    )
    has_same_at ShPath v a = absurd a
    has_same_at ShTargetNode v a = (
      λ h. ((compiled c i).targets (Node v)).1 (inl (properties.TargetNode, v, h, refl)),
      λ d. elim (target_told (Node v) d) [ inl h ↦ h | inr e ↦ absurd (let f = e in cc) ],
    )
    has_same_at ShTargetClass v a = (
      λ h. ((compiled c i).targets (Class v)).1 (inl (properties.TargetClass, v, h, refl)),
      λ d. elim (target_told (Class v) d) [ inl h ↦ h | inr e ↦ absurd (let f = e in cc) ],
    )
    has_same_at ShTargetSubjectsOf v a = (
      λ h. ((compiled c i).targets (SubjectsOf v)).1 (inl (properties.TargetSubjectsOf, v, h, refl)),
      λ d. elim (target_told (SubjectsOf v) d) [ inl h ↦ h | inr e ↦ absurd (let f = e in cc) ],
    )
    has_same_at ShTargetObjectsOf v a = (
      λ h. ((compiled c i).targets (ObjectsOf v)).1 (inl (properties.TargetObjectsOf, v, h, refl)),
      λ d. elim (target_told (ObjectsOf v) d) [ inl h ↦ h | inr e ↦ absurd (let f = e in cc) ],
    )

    -- the members that a constraint keeps
    members_told : (a : Kind) (v : Term) (k : Constraint Term) (ms : List Term) → IsConstraint s nodes a v k → HasMembers shapes k ms → ListOf s v ms
    members_told (kinds.Term component) v k ms h kept = absurd (rw h at kept)
    members_told (kinds.List component) v k ms h kept =
        let e : h.0 ≡ ms = subst (λ (x : Constraint Term). HasMembers shapes x ms) h.2 kept in
        subst (λ (xs : List Term). ListOf s v xs) e h.1
    members_told (kinds.Shape component) v k ms h kept = absurd (subst (λ (x : Constraint Term). HasMembers shapes x ms) h.2 kept)
    members_told (kinds.Shapes component) v k ms h kept =
        let at : AreAt shapes h.0 ms = subst (λ (x : Constraint Term). HasMembers shapes x ms) h.2 kept in
        let e : h.1.0 ≡ ms = same_terms nodes h.0 h.1.0 ms h.1.2 (places_at h.0 ms at) in
        subst (λ (xs : List Term). ListOf s v xs) e h.1.1
    members_told kinds.Nothing v k ms h kept = absurd h

    list_told : (p : ShapeProperty) (v : Term) (k : Constraint Term) (ms : List Term) → Contains c.constraints k → IsFor p v k → HasMembers shapes k ms → ListOf s v ms
    list_told p v k ms d for kept =
        let h = ((compiled c i).constraints k).0 d in
        let f : h.1 ≡ v = sym (same_parameter s nodes (kind h.0) h.1 k h.3) ∙ for.1 in
        subst (λ (w : Term). ListOf s w ms) f (members_told (kind h.0) h.1 k ms h.3 kept)

    -- a value that is a list says a constraint with its members
    abbrev MadeList : ShapeProperty → Term → List Term → Type 0
    MadeList p v ms = (k : Constraint Term) × SaysConstraint s nodes (rule_property p) v k × IsFor p v k × HasMembers shapes k ms

    list_same : (p : ShapeProperty) (v : Term) (ms : List Term) → (HasProperty s n p v → ListOf s v ms → MadeList p v ms)
        → (HasProperty s n p v × ListOf s v ms) ↔ ((k : Constraint Term) × Contains c.constraints k × IsFor p v k × HasMembers shapes k ms)
    list_same p v ms make = (
      λ h. let m = make h.0 h.1 in (m.0, ((compiled c i).constraints m.0).1 (rule_property p, v, (has_same s n p v).1 h.0, m.1), m.2, m.3),
      λ d. (told c i p v d.0 d.1 d.2, list_told p v d.0 ms d.1 d.2 d.3),
    )

    terms_made : (p : ShapeProperty) (v : Term) (ms : List Term) → HasProperty s n p v → ListOf s v ms → (p ≡ ShLanguageIn) ⊎ (p ≡ ShIn) → MadeList p v ms
    terms_made p v ms h l is = elim is [
      | inl e ↦ subst (λ (q : ShapeProperty). MadeList q v ms) (sym e) (ByList by_list.LanguageIn v ms, (ms, l, refl), (refl, refl), refl)
      | inr e ↦ subst (λ (q : ShapeProperty). MadeList q v ms) (sym e) (ByList by_list.In v ms, (ms, l, refl), (refl, refl), refl)
    ]

    made_and : (v : Term) (ms : List Term) → HasProperty s n ShAnd v → ListOf s v ms → MadeList ShAnd v ms
    made_and v ms h l =
        let ps = all_places nodes ms (λ t m. taken_place n t v properties.And h (ms, l, m)) in
        (ByShapes by_shapes.And v ps.0, (ps.0, (ms, l, ps.1), refl), (refl, refl), at_places ps.0 ms ps.1)

    made_or : (v : Term) (ms : List Term) → HasProperty s n ShOr v → ListOf s v ms → MadeList ShOr v ms
    made_or v ms h l =
        let ps = all_places nodes ms (λ t m. taken_place n t v properties.Or h (ms, l, m)) in
        (ByShapes by_shapes.Or v ps.0, (ps.0, (ms, l, ps.1), refl), (refl, refl), at_places ps.0 ms ps.1)

    made_xone : (v : Term) (ms : List Term) → HasProperty s n ShXone v → ListOf s v ms → MadeList ShXone v ms
    made_xone v ms h l =
        let ps = all_places nodes ms (λ t m. taken_place n t v properties.Xone h (ms, l, m)) in
        (ByShapes by_shapes.Xone v ps.0, (ps.0, (ms, l, ps.1), refl), (refl, refl), at_places ps.0 ms ps.1)

    made : (p : ShapeProperty) → TakesMembers p → (v : Term) (ms : List Term) → HasProperty s n p v → ListOf s v ms → MadeList p v ms
    made p takes v ms h l = elim takes [
      | inl e ↦ terms_made p v ms h l (inl e)
      | inr (inl e) ↦ subst (λ (q : ShapeProperty). MadeList q v ms) (sym e) (made_and v ms (subst (λ (q : ShapeProperty). HasProperty s n q v) e h) l)
      | inr (inr (inl e)) ↦ subst (λ (q : ShapeProperty). MadeList q v ms) (sym e) (made_or v ms (subst (λ (q : ShapeProperty). HasProperty s n q v) e h) l)
      | inr (inr (inr (inl e))) ↦ subst (λ (q : ShapeProperty). MadeList q v ms) (sym e) (made_xone v ms (subst (λ (q : ShapeProperty). HasProperty s n q v) e h) l)
      | inr (inr (inr (inr e))) ↦ terms_made p v ms h l (inr e)
    ]

    path_same : (p : Path) → (IsOff s n → IsPredicate p) → ShapePath s n p ↔ (c.path ≡ Some p)
    path_same p may = path_kept s n c.path (one properties.Path refl) (compiled c i).path c.is_deactivated (compiled c i).is_deactivated p may

    sibling_same : (t : Term) → Sibling s n t ↔ ((k : ℕ) × Contains c.siblings k × IsAt shapes k t)
    sibling_same t = (
      λ h.
          let k = taken_place h.3.1 t t properties.QualifiedValueShape h.3.4 refl in
          (k.0, ((compiled c i).siblings k.0).1 (t, h, k.1), at_place k.0 t k.1),
      λ d. let w = ((compiled c i).siblings d.0).0 d.1 in
          let both : Some w.0 ≡ Some t = sym w.2 ∙ place_at d.0 t d.2 in
          let e : w.0 ≡ t = cc in subst (λ (u : Term). Sibling s n u) e w.1,
    )

  allowed_same : (c : ReadShape) → Contains shapes c → (p : Term) → IsAllowed s c.node p ↔ ShapeAllows shapes c p
  allowed_same c i p = (
    λ h. elim h [
      | inl a ↦
          let k = (has_same_at c i ShProperty a.0 tt).0 a.1 in
          let m = k.2.0 in
          let there = get_in shapes k.0 m k.2.1 in
          inl (k.0, m, k.1, k.2.1, (path_same m there (Predicate p) (λ off. (p, refl))).0 (subst (λ (u : Term). ShapePath s u (Predicate p)) (sym k.2.2) a.2))
      | inr a ↦ inr (((compiled c i).ignored p).1 (a.0, a.2, (a.1, a.3, a.4)))
    ],
    λ h. elim h [
      | inl a ↦ inl (a.1.node, (has_same_at c i ShProperty a.1.node tt).1 (a.0, a.2, (a.1, a.3, refl)), (path_same a.1 (get_in shapes a.0 a.1 a.3) (Predicate p) (λ off. (p, refl))).1 a.4)
      | inr d ↦ let k = ((compiled c i).ignored p).0 d in inr (k.0, k.2.0, k.1, k.2.1, k.2.2)
    ],
  )

  says_alike : (c : ReadShape) → Contains shapes c → SameShape (reading s c.node) (shape_reading shapes c)
  says_alike c i = record {
    path = path_same c i;
    is_node_shape = λ active. path_none s c.node c.path ((compiled c i).path.active active);
    has = has_same_at c i;
    has_list = λ p takes head ms. list_same c i p head ms (made c i p takes head ms);
    sibling = sibling_same c i;
    allowed = allowed_same c i;
    is_class = (
      λ h. ((compiled c i).targets ImplicitClass).1 (inr (refl, h.1)),
      λ d. (
        is_shape c i,
        elim (((compiled c i).targets ImplicitClass).0 d) [
          | inl h ↦ absurd (declared s c.node h.0 h.1 ImplicitClass h.2 h.3)
          | inr h ↦ h.1
        ],
      ),
    );
  }

  link_told : (a : Kind) (v : Term) (k : Constraint Term) → IsConstraint s nodes a v k → IsLinked shapes k
  link_told (kinds.Term component) v k h = subst (λ (x : Constraint Term). IsLinked shapes x) (sym h) tt
  link_told (kinds.List component) v k h = subst (λ (x : Constraint Term). IsLinked shapes x) (sym h.2) tt
  link_told (kinds.Shape component) v k h = subst (λ (x : Constraint Term). IsLinked shapes x) (sym h.2) (at_place h.0 v h.1)
  link_told (kinds.Shapes component) v k h = subst (λ (x : Constraint Term). IsLinked shapes x) (sym h.2) tt
  link_told kinds.Nothing v k h = absurd h

  linked : (c : ReadShape) → Contains shapes c → (k : Constraint Term) → Contains c.constraints k → IsLinked shapes k
  linked c i k d = let h = ((compiled c i).constraints k).0 d in link_told (kind h.0) h.1 k h.3

  all_shapes : (n : Term) → IsShape s n → (c : ReadShape) × Contains shapes c × (c.node ≡ n)
  all_shapes n h = image_from node_of shapes n (contains_member (map node_of shapes) n (subst (λ (ns : List Term). Contains ns n) (sym same) ((listing.members n).1 h)))

  pub speak_for : StandFor shapes s
  speak_for = record {
    each = says_alike;
    are_shapes = is_shape;
    all = all_shapes;
    ascending = ascending_nodes shapes (subst (λ (ns : List Term). IsAscending term_cmp ns) (sym same) listing.ascending);
    linked = λ c i k d l. linked c i (get_or c.constraints k d) (Contains-get_or c.constraints k d l);
    severity = λ c i. first_same s c.node (sh (codes "Violation")) properties.Severity c.severity (values_of s c.node (sh (codes "severity"))) (one c i properties.Severity refl) (compiled c i).severity (values_law s c.node (sh (codes "severity"))).members;
    messages = λ c i. one_listing term_cmp term_total (Has s c.node (sh (codes "message"))) c.messages (messages_of s c.node) (compiled c i).messages (values_law s c.node (sh (codes "message")));
  }
