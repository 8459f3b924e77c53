-- A plan has as many rows as looks are counted of the shape.
use Rattle.std.proofs.Common.{◌≡◌, ℕ, zero, suc, ◌+◌, ◌<◌, ◌≤◌, Bool, true, false, List, [], ◌∷◌, ◌++◌, length, get_or, refl, ap, subst, arith, inl, inr}
use Rattle.std.specs.Prelude.{◌⊎◌, ◌↔◌, MatchOption, Option, Some, None, if◌then◌else◌}
use Rattle.std.specs.List.{All, Contains, flat_map, list_any}
use Rattle.std.specs.Ordering.{nat_cmp}
use Rattle.std.proofs.lemmas.Cmp.{nat_cmp_total}
use Rattle.std.proofs.lemmas.List.{length-append}
use Rattle.std.proofs.lemmas.List.Elements.{All-contains, Contains-append_left, Contains-append_right, Contains-get_or}
use Rattle.collections.specs.Listings.{IsListing}
use Rattle.collections.specs.Ordered.{IsAscending, with_item}
use Rattle.collections.proofs.Ascending.{IsAscending-with_item}
use Rattle.collections.proofs.Members.{has_cases, has_equal}
use Rattle.rdf_model.specs.declared.term.Term.{Term}
use Rattle.rdf_model.specs.declared.triple.Triple.{Triple}
use Rattle.rdf_model.specs.Terms.{term_cmp}
use Rattle.shape_model.specs.Declarations.{values_of}
use Rattle.shape_model.specs.Instances.{Instance}
use Rattle.shape_model.specs.Paths.{Path}
use Rattle.shape_model.specs.Readings.{Reading, Refers, SameReading, Sibling, reading}
use Rattle.shape_model.specs.ShapeSyntax.{HasProperty, ListOf, TakesMembers}
use Rattle.shape_model.specs.Vocabulary.{ShAnd, ShClass, ShClosed, ShDeactivated, ShDisjoint, ShEquals, ShLessThan, ShLessThanOrEquals, ShNode, ShNot, ShOr, ShProperty, ShQualifiedMaxCount, ShQualifiedMinCount, ShQualifiedValueShape, ShTargetClass, ShTargetObjectsOf, ShTargetSubjectsOf, ShXone, ShapeProperty, property_iri, rdfs_class, true_literal}
use Rattle.shape_model.proofs.Declarations.{values_law}
use Rattle.shape_model.proofs.Surroundings.{reading_back, refers_same}
use Rattle.reference_totals.specs.Totals.{SumBy}
use Rattle.shape_rules.specs.Broken.{IsWellFormed}
use Rattle.shape_sizes.specs.Sizes.{AreCounted, AreMembersOf, AreQualified, HasOwnLooks, HasQualifiedCount, HasTargetLooks, IsDeactivated, values}
use Rattle.shape_properties.specs.declared.property.ShapeProperty.TheVariants as properties
use Rattle.shape_ast.specs.declared.constraint.Constraint.{Constraint}
use Rattle.shape_ast.specs.declared.constraint.Constraint.TheVariants.{ByList, ByShape, ByShapes, ByTerm}
use Rattle.shape_ast.specs.declared.target.Target.TheVariants.{Class, ImplicitClass, ObjectsOf, SubjectsOf}
use Rattle.shape_ast.specs.Readings.{ReadShape, parameter}
use Rattle.shape_ast.proofs.Agreeing.{same_active, same_but_path, with_path}
use Rattle.shape_ast.specs.Standing.{AreAt, HasMembers, IsAt, IsFor, IsLinked, StandFor, shape_reading}
use Rattle.shape_ast.specs.Once.{IsOnce}
use Rattle.shape_properties.proofs.Defined.{shape_same}
use Rattle.shape_rules.proofs.SingleValues.{one_value}
use Rattle.read_plans.specs.ShapeRows.{constraint_places, constraint_rows, is_count, optional_place, optional_rows, own_rows, qualified_places, referred_places, target_rows, value_way, with_places}
use Rattle.read_plans.proofs.Lists.{any_from}
use Rattle.read_plans.proofs.Referred.{IsWithin, count_of, is_counted, named_refers, nodes_at, once_from, once_to}
use Rattle.plan_laws.proofs.Aims.{aim_numbers, class_back, implicit_if, implicit_number, objects_back, pick_class, pick_objects, pick_subjects, picked, picked_number, subjects_back}
use Rattle.plan_laws.proofs.NamedPlaces.{list_number, lists_at, members_append, named_total, one_linked, ones_at, places_for, places_named, same_number, shape_number, term_number}
use Rattle.plan_laws.proofs.OwnNumbers.{constraint_numbers, count, count_if, counts_as, path_looks}
use Rattle.plan_laws.proofs.Params.{for_from, is_for, number, params, params_are}
use Rattle.plan_laws.proofs.Places.{at_append, listed_at, nodes_listed, sum_at}
use Rattle.plan_laws.proofs.Sums.{sum_append, total, total_append}

-- the places that a compiled shape names are there
pub record IsInside (count : ℕ) (c : ReadShape) : Type 0 where
  pub constraints : (k : Constraint Term) → Contains c.constraints k → IsWithin count k
  pub properties : All (λ n. n < count) c.properties
  pub qualified : MatchOption c.qualified (Unit {0}) (λ n. n < count)
  pub siblings : All (λ n. n < count) c.siblings

-- places, each once
once_ascending : (ns acc : List ℕ) → IsAscending nat_cmp acc → IsAscending nat_cmp (with_places acc ns)
once_ascending [] acc a = a
once_ascending (n ∷ ns) acc a = once_ascending ns (with_item nat_cmp n acc) (IsAscending-with_item nat_cmp_total n acc a)

all_of : (P : ℕ → Type 0) (ns : List ℕ) → ((n : ℕ) → Contains ns n → P n) → All P ns
all_of P ns h k d l = h (get_or ns k d) (Contains-get_or ns k d l)

module _ (s : List Triple) (well : IsWellFormed s) (shapes : List ReadShape) (stand : StandFor shapes s) (c : ReadShape) (i : Contains shapes c) (once : IsOnce c) (inside : IsInside (length shapes) c) where
  abbrev ks : List (Constraint Term)
  ks = c.constraints

  abbrev own : Reading
  own = with_path (reading s c.node) (shape_reading shapes c)

  same : SameReading own (shape_reading shapes c)
  same = same_but_path (reading s c.node) (shape_reading shapes c) (stand.each c i)

  linked : (k : Constraint Term) → Contains ks k → IsLinked shapes k
  linked k d = All-contains (IsLinked shapes) ks k (stand.linked c i) d

  -- the values of the properties that constraints are for
  told : (p : ShapeProperty) → 0 < number p → ((v : Term) → HasProperty s c.node p v ↔ ((k : Constraint Term) × Contains ks k × IsFor p v k)) → params p ks ≡ values_of s c.node (property_iri p)
  told p l h = params_are c.node p l s ks once.constraints h

  of_class : params ShClass ks ≡ values s c.node properties.Class
  of_class = told ShClass (omega arith) (λ v. same.has ShClass v tt)

  of_equals : params ShEquals ks ≡ values s c.node properties.Equals
  of_equals = told ShEquals (omega arith) (λ v. same.has ShEquals v tt)

  of_disjoint : params ShDisjoint ks ≡ values s c.node properties.Disjoint
  of_disjoint = told ShDisjoint (omega arith) (λ v. same.has ShDisjoint v tt)

  of_less : params ShLessThan ks ≡ values s c.node properties.LessThan
  of_less = told ShLessThan (omega arith) (λ v. same.has ShLessThan v tt)

  of_at_most : params ShLessThanOrEquals ks ≡ values s c.node properties.LessThanOrEquals
  of_at_most = told ShLessThanOrEquals (omega arith) (λ v. same.has ShLessThanOrEquals v tt)

  of_closed : params ShClosed ks ≡ values s c.node properties.Closed
  of_closed = told ShClosed (omega arith) (λ v. same.has ShClosed v tt)

  of_not : params ShNot ks ≡ values s c.node properties.Not
  of_not = told ShNot (omega arith) (λ v. same.has ShNot v tt)

  of_node : params ShNode ks ≡ values s c.node properties.Node
  of_node = told ShNode (omega arith) (λ v. same.has ShNode v tt)

  of_and : params ShAnd ks ≡ values s c.node properties.And
  of_and = told ShAnd (omega arith) (λ v. same.has ShAnd v tt)

  of_or : params ShOr ks ≡ values s c.node properties.Or
  of_or = told ShOr (omega arith) (λ v. same.has ShOr v tt)

  of_xone : params ShXone ks ≡ values s c.node properties.Xone
  of_xone = told ShXone (omega arith) (λ v. same.has ShXone v tt)

  -- the looks of its own
  pub own_looks : (IsDeactivated s c.node → ⊥) → (q : List Path) → HasOwnLooks s c.node (length (own_rows c q))
  own_looks on q =
      let active = same_active (reading s c.node) (shape_reading shapes c) (stand.each c i) on in
      let split = length-append (optional_rows c.path q) (flat_map (constraint_rows q (value_way c.path q)) ks) in
      let all = constraint_numbers q (value_way c.path q) ks in
      let d : length (params ShClass ks) ≡ length (values s c.node properties.Class) = ap length of_class in
      let e : length (params ShEquals ks) ≡ length (values s c.node properties.Equals) = ap length of_equals in
      let f : length (params ShDisjoint ks) ≡ length (values s c.node properties.Disjoint) = ap length of_disjoint in
      let g : length (params ShLessThan ks) ≡ length (values s c.node properties.LessThan) = ap length of_less in
      let h : length (params ShLessThanOrEquals ks) ≡ length (values s c.node properties.LessThanOrEquals) = ap length of_at_most in
      let closed = values_law s c.node (property_iri ShClosed) in
      let n : count true_literal (params ShClosed ks) ≡ count true_literal (values s c.node properties.Closed) = ap (count true_literal) of_closed in (
        length (optional_rows c.path q),
        count true_literal (values s c.node properties.Closed),
        path_looks s c.node c.path q (one_value s well c.node ((shape_same s c.node).1 (stand.are_shapes c i)) properties.Path refl)
            (λ none. active.is_node_shape.1 none)
            (λ p some. (active.path p).1 some),
        counts_as (Contains (values s c.node properties.Closed) true_literal) (HasProperty s c.node ShClosed true_literal) 1 (count true_literal (values s c.node properties.Closed)) (closed.members true_literal)
            (count_if true_literal (values s c.node properties.Closed) closed.ascending),
        omega (arith, split, all, d, e, f, g, h, n),
      )

  -- the shapes that it refers to
  ones : (p : ShapeProperty) → 7 ≤ number p → number p ≤ 8 → AreAt shapes (places_for p ks) (params p ks)
  ones p low high = ones_at shapes p ks (λ k d e. one_linked shapes p low high k (linked k d) e)

  list_of : (p : ShapeProperty) → 9 ≤ number p → TakesMembers p → ((head : Term) (ms : List Term) → (k : Constraint Term) → Contains ks k → IsFor p head k → HasMembers shapes k ms → ListOf s head ms)
      → (k : Constraint Term) → Contains ks k → is_for p k ≡ true → (ms : List Term) × ListOf s (parameter k) ms × AreAt shapes (constraint_places k) ms
  list_of p low takes to (ByTerm component q) d e = absurd (let a = term_number component in let b = same_number p (ByTerm component q) e in omega (arith, a, b, low))
  list_of p low takes to (ByList component q members) d e = absurd (let a = list_number component in let b = same_number p (ByList component q members) e in omega (arith, a, b, low))
  list_of p low takes to (ByShape component q place) d e = absurd (let a = (shape_number component).1 in let b = same_number p (ByShape component q place) e in omega (arith, a, b, low))
  list_of p low takes to (ByShapes component q places) d e =
      let nodes = nodes_at shapes places (inside.constraints (ByShapes component q places) d) in
      (nodes.0, to q nodes.0 (ByShapes component q places) d (for_from p (ByShapes component q places) (omega (arith, low)) e, refl) nodes.1, nodes.1)

  lists : (p : ShapeProperty) → 9 ≤ number p → TakesMembers p → (ms : List Term) × AreMembersOf s (params p ks) ms × AreAt shapes (places_for p ks) ms
  lists p low takes = lists_at shapes s p ks (list_of p low takes (λ head ms k d f m. ((same.has_list p takes head ms).1 (k, d, f, m)).1))

  properties_at : AreAt shapes c.properties (values s c.node properties.Property)
  properties_at = listed_at shapes stand.ascending (HasProperty s c.node ShProperty) c.properties (values s c.node properties.Property) once.properties inside.properties (values_law s c.node (property_iri ShProperty)) (λ v. same.has ShProperty v tt)

  -- the qualified value shape and the siblings, where there is a qualified count
  count_from : list_any is_count ks ≡ true → HasQualifiedCount s c.node
  count_from e =
      let k = any_from is_count ks e in
      let h = count_of shapes c linked inside.constraints k.0 k.1 k.2 in
      (h.0, elim h.1 [ inl m ↦ inl ((same.has ShQualifiedMinCount h.0 tt).1 m) | inr m ↦ inr ((same.has ShQualifiedMaxCount h.0 tt).1 m) ])

  count_to : HasQualifiedCount s c.node → list_any is_count ks ≡ true
  count_to h = is_counted shapes c linked inside.constraints (h.0, elim h.1 [ inl m ↦ inl ((same.has ShQualifiedMinCount h.0 tt).0 m) | inr m ↦ inr ((same.has ShQualifiedMaxCount h.0 tt).0 m) ])

  in_option : (o : Option ℕ) → MatchOption o (Unit {0}) (λ n. n < length shapes) → All (λ n. n < length shapes) (optional_place o)
  in_option None h k d l = absurd (omega (arith, l))
  in_option (Some n) h zero d l = h
  in_option (Some n) h (suc k) d l = absurd (omega (arith, l))

  option_ascends : (o : Option ℕ) → IsAscending nat_cmp (optional_place o)
  option_ascends None = tt
  option_ascends (Some n) = (tt, tt)

  option_is : (o : Option ℕ) (n : ℕ) → Contains (optional_place o) n ↔ (o ≡ Some n)
  option_is None n = (λ d. let l = d.1 in absurd (omega arith), λ e. cc)
  option_is (Some m) n = (λ d. elim (has_cases m [] n d) [ inl e ↦ ap Some e | inr k ↦ (let l = k.1 in absurd (omega arith)) ], λ e. has_equal m [] n (cc))

  qualified_at : AreAt shapes (optional_place c.qualified) (values s c.node properties.QualifiedValueShape)
  qualified_at = listed_at shapes stand.ascending (HasProperty s c.node ShQualifiedValueShape) (optional_place c.qualified) (values s c.node properties.QualifiedValueShape)
      (option_ascends c.qualified) (in_option c.qualified inside.qualified) (values_law s c.node (property_iri ShQualifiedValueShape)) (λ v. (
        λ h. let k = (same.has ShQualifiedValueShape v tt).0 h in (k.0, (option_is c.qualified k.0).1 k.1, k.2),
        λ k. (same.has ShQualifiedValueShape v tt).1 (k.0, (option_is c.qualified k.0).0 k.1, k.2),
      ))

  none_first : (n : ℕ) → Contains [] n ⊎ Contains c.siblings n → Contains c.siblings n
  none_first n h = elim h [ inl d ↦ (let l = d.1 in absurd (omega arith)) | inr d ↦ d ]

  siblings_at : (us : List Term) × IsListing term_cmp (Sibling s c.node) us × AreAt shapes (with_places [] c.siblings) us
  siblings_at = nodes_listed shapes stand.ascending (Sibling s c.node) (with_places [] c.siblings) (once_ascending c.siblings [] tt)
      (all_of (λ n. n < length shapes) (with_places [] c.siblings) (λ n d. All-contains (λ m. m < length shapes) c.siblings n inside.siblings (none_first n (once_from c.siblings [] n d)))) (λ t. (
        λ h. let k = (same.sibling t).0 h in (k.0, once_to c.siblings [] k.0 (inr k.1), k.2),
        λ k. (same.sibling t).1 (k.0, none_first k.0 (once_from c.siblings [] k.0 k.1), k.2),
      ))

  qualifieds : (b : Bool) → list_any is_count ks ≡ b → (ms : List Term) × AreQualified s c.node ms × AreAt shapes (if b then optional_place c.qualified ++ with_places [] c.siblings else []) ms
  qualifieds true e =
      let others = siblings_at in
      (values s c.node properties.QualifiedValueShape ++ others.0, inl (count_from e, (others.0, others.1, refl)), at_append shapes (optional_place c.qualified) (with_places [] c.siblings) (values s c.node properties.QualifiedValueShape) others.0 qualified_at others.2)
  qualifieds false e = ([], inr (λ h. let k = count_to h in cc, refl), tt)

  -- what all of them have, in the order of places and in that of nodes
  module _ (T : Term → ℕ → Type 0) (f : ℕ → ℕ) (each : (n : ℕ) (t : Term) → Contains (referred_places c) n → IsAt shapes n t → T t (f n)) where
    by_constraints : (p : ShapeProperty) (ts : List Term) → AreAt shapes (places_for p ks) ts → SumBy T ts (total f (places_for p ks))
    by_constraints p ts at = sum_at shapes T f (places_for p ks) ts at (λ n t d. each n t (Contains-append_left (c.properties ++ flat_map constraint_places ks) (qualified_places c) n
        (Contains-append_right c.properties (flat_map constraint_places ks) n (places_named p ks n d))))

    by_properties : SumBy T (values s c.node properties.Property) (total f c.properties)
    by_properties = sum_at shapes T f c.properties (values s c.node properties.Property) properties_at (λ n t d. each n t (Contains-append_left (c.properties ++ flat_map constraint_places ks) (qualified_places c) n
        (Contains-append_left c.properties (flat_map constraint_places ks) n d)))

    by_qualified : (ts : List Term) → AreAt shapes (qualified_places c) ts → SumBy T ts (total f (qualified_places c))
    by_qualified ts at = sum_at shapes T f (qualified_places c) ts at (λ n t d. each n t (Contains-append_right (c.properties ++ flat_map constraint_places ks) (qualified_places c) n d))

    pub counted : (ms : List Term) × AreCounted s c.node ms × SumBy T ms (total f (referred_places c))
    counted =
        let all_not = subst (λ (ts : List Term). AreAt shapes (places_for ShNot ks) ts) of_not (ones ShNot (omega arith) (omega arith)) in
        let all_node = subst (λ (ts : List Term). AreAt shapes (places_for ShNode ks) ts) of_node (ones ShNode (omega arith) (omega arith)) in
        let all_and = lists ShAnd (omega arith) (inr (inl refl)) in
        let all_or = lists ShOr (omega arith) (inr (inr (inl refl))) in
        let all_xone = lists ShXone (omega arith) (inr (inr (inr (inl refl)))) in
        let heads_and = subst (λ (hs : List Term). AreMembersOf s hs all_and.0) of_and all_and.1 in
        let heads_or = subst (λ (hs : List Term). AreMembersOf s hs all_or.0) of_or all_or.1 in
        let heads_xone = subst (λ (hs : List Term). AreMembersOf s hs all_xone.0) of_xone all_xone.1 in
        let others = qualifieds (list_any is_count ks) refl in
        let members = all_and.0 ++ all_or.0 ++ all_xone.0 in
        let v_not = values s c.node properties.Not in
        let v_node = values s c.node properties.Node in
        let v_property = values s c.node properties.Property in
        let k_not = total f (places_for ShNot ks) in
        let k_node = total f (places_for ShNode ks) in
        let k_and = total f (places_for ShAnd ks) in
        let k_or = total f (places_for ShOr ks) in
        let k_xone = total f (places_for ShXone ks) in
        let k_property = total f c.properties in
        let k_qualified = total f (qualified_places c) in
        let sum_members = sum_append T (all_and.0 ++ all_or.0) all_xone.0 (k_and + k_or) k_xone
        (sum_append T all_and.0 all_or.0 k_and k_or (by_constraints ShAnd all_and.0 all_and.2) (by_constraints ShOr all_or.0 all_or.2)) (by_constraints ShXone all_xone.0 all_xone.2) in
        let sum_values = sum_append T (v_not ++ v_node) v_property (k_not + k_node) k_property (sum_append T v_not v_node k_not k_node (by_constraints ShNot v_not all_not) (by_constraints ShNode v_node all_node)) by_properties in
        let sum = sum_append T (v_not ++ v_node ++ v_property ++ members) others.0 (k_not + k_node + k_property + (k_and + k_or + k_xone)) k_qualified
        (sum_append T (v_not ++ v_node ++ v_property) members (k_not + k_node + k_property) (k_and + k_or + k_xone) sum_values sum_members) (by_qualified others.0 others.2) in
        let a = total_append f (c.properties ++ flat_map constraint_places ks) (qualified_places c) in
        let b = total_append f c.properties (flat_map constraint_places ks) in
        let d = named_total f ks in
        let same_sum : k_not + k_node + k_property + (k_and + k_or + k_xone) + k_qualified ≡ total f (referred_places c) = omega (arith, a, b, d) in (
          v_not ++ v_node ++ v_property ++ members ++ others.0,
          (
            members,
            others.0,
            members_append s (values s c.node properties.And ++ values s c.node properties.Or) (values s c.node properties.Xone) (all_and.0 ++ all_or.0) all_xone.0
                (members_append s (values s c.node properties.And) (values s c.node properties.Or) all_and.0 all_or.0 heads_and heads_or) heads_xone,
            others.1,
            refl,
          ),
          subst (λ (k : ℕ). SumBy T (v_not ++ v_node ++ v_property ++ members ++ others.0) k) same_sum sum,
        )

  -- the looks of its targets
  pub target_looks : HasTargetLooks s c.node (length (flat_map target_rows c.targets))
  target_looks =
      let all = aim_numbers c.targets in
      let a : length (picked pick_class c.targets) ≡ length (values s c.node properties.TargetClass)
      = picked_number pick_class Class class_back (λ v. refl) c.targets once.targets (HasProperty s c.node ShTargetClass) (values s c.node properties.TargetClass) (values_law s c.node (property_iri ShTargetClass)) (λ v. same.has ShTargetClass v tt) in
      let b : length (picked pick_subjects c.targets) ≡ length (values s c.node properties.TargetSubjectsOf)
      = picked_number pick_subjects SubjectsOf subjects_back (λ v. refl) c.targets once.targets (HasProperty s c.node ShTargetSubjectsOf) (values s c.node properties.TargetSubjectsOf) (values_law s c.node (property_iri ShTargetSubjectsOf)) (λ v. same.has ShTargetSubjectsOf v tt) in
      let d : length (picked pick_objects c.targets) ≡ length (values s c.node properties.TargetObjectsOf)
      = picked_number pick_objects ObjectsOf objects_back (λ v. refl) c.targets once.targets (HasProperty s c.node ShTargetObjectsOf) (values s c.node properties.TargetObjectsOf) (values_law s c.node (property_iri ShTargetObjectsOf)) (λ v. same.has ShTargetObjectsOf v tt) in (
        implicit_number c.targets,
        counts_as (Contains c.targets ImplicitClass) (Instance s c.node rdfs_class) 2 (implicit_number c.targets)
            (λ k. (same.is_class.1 k).1, λ h. same.is_class.0 (stand.are_shapes c i, h))
            (implicit_if c.targets once.targets),
        omega (arith, all, a, b, d),
      )

  -- whether it is deactivated
  pub off_from : c.is_deactivated ≡ true → IsDeactivated s c.node
  off_from e = (same.has ShDeactivated true_literal refl).1 (e, refl)

  pub off_to : IsDeactivated s c.node → c.is_deactivated ≡ true
  off_to h = ((same.has ShDeactivated true_literal refl).0 h).0

  -- a chain from a shape that it refers to is one from it
  pub refers_to : (n : ℕ) (t : Term) → Contains (referred_places c) n → IsAt shapes n t → Refers (reading s c.node) t
  refers_to n t d at = refers_same (shape_reading shapes c) own (reading_back own (shape_reading shapes c) same) t (named_refers shapes c linked inside.constraints n t d at)
