-- The shapes that a compiled shape refers to are those at the places that it names.
use Rattle.std.proofs.Common.{◌≡◌, ◌∙◌, ℕ, zero, suc, ◌<◌, Bool, true, false, List, [], ◌∷◌, ◌++◌, length, refl, sym, ap, subst, arith, inl, inr}
use Rattle.std.specs.Prelude.{◌⊎◌, Option, Some, None, slice_get, if◌then◌else◌}
use Rattle.std.specs.List.{All, Contains, flat_map, list_any}
use Rattle.std.specs.FinMap.{nat_cmp-IsAntisymmetric}
use Rattle.std.proofs.lemmas.Cmp.{nat_cmp_total}
use Rattle.std.specs.Ordering.{nat_cmp}
use Rattle.std.proofs.lemmas.List.Elements.{Contains-append_cases, Contains-append_left, Contains-append_right}
use Rattle.collections.specs.Ordered.{with_item}
use Rattle.collections.proofs.Members.{has_cases, has_equal, has_head, has_tail, with_cases, with_new, with_old}
use Rattle.rdf_model.specs.declared.term.Term.{Term}
use Rattle.shape_model.specs.Components.{parameter_of}
use Rattle.shape_model.specs.Readings.{HasMember, HasQualifiedCount, Reading, Refers}
use Rattle.shape_model.specs.Triples.{IsMember}
use Rattle.shape_model.specs.Vocabulary.{ShAnd, ShNode, ShNot, ShOr, ShQualifiedMaxCount, ShQualifiedMinCount, ShXone, ShapeProperty}
use Rattle.shape_ast.specs.declared.component.TermComponent.{TermComponent}
use Rattle.shape_ast.specs.declared.component.TermComponent.TheVariants as by_term
use Rattle.shape_ast.specs.declared.component.ListComponent.{ListComponent}
use Rattle.shape_ast.specs.declared.component.ListComponent.TheVariants as by_list
use Rattle.shape_ast.specs.declared.component.ShapeComponent.{ShapeComponent}
use Rattle.shape_ast.specs.declared.component.ShapeComponent.TheVariants as by_shape
use Rattle.shape_ast.specs.declared.component.ShapesComponent.{ShapesComponent}
use Rattle.shape_ast.specs.declared.component.ShapesComponent.TheVariants as by_shapes
use Rattle.shape_ast.specs.declared.constraint.Constraint.{Constraint}
use Rattle.shape_ast.specs.declared.constraint.Constraint.TheVariants.{ByTerm, ByList, ByShape, ByShapes}
use Rattle.shape_ast.specs.Components.{list_component, shape_component, shapes_component, term_component}
use Rattle.shape_ast.specs.Readings.{ReadShape, component_of, parameter}
use Rattle.shape_ast.specs.Standing.{AreAt, HasMembers, IsAt, IsAtSome, IsFor, IsLinked, shape_reading}
use Rattle.read_plans.specs.ShapeRows.{constraint_places, is_count, optional_place, qualified_places, referred_places, with_places}
use Rattle.read_plans.proofs.Lists.{any_from, any_to, flat_from, flat_to, none_in}

-- whether a property takes one shape (1), a list of shapes (2), or is a qualified count (3)
abbrev kind : ShapeProperty → ℕ
kind ShNot = 1
kind ShNode = 1
kind ShAnd = 2
kind ShOr = 2
kind ShXone = 2
kind ShQualifiedMinCount = 3
kind ShQualifiedMaxCount = 3
kind _ = 0

term_kind : (k : TermComponent) (p : Term) → (kind (parameter_of (term_component k)) ≡ 0) ⊎ ((kind (parameter_of (term_component k)) ≡ 3) × (is_count (ByTerm k p) ≡ true))
term_kind by_term.QualifiedMinCount p = inr (refl, refl)
term_kind by_term.QualifiedMaxCount p = inr (refl, refl)
term_kind k p = inl refl

list_kind : (k : ListComponent) → kind (parameter_of (list_component k)) ≡ 0
list_kind by_list.LanguageIn = refl
list_kind by_list.In = refl

shape_kind : (k : ShapeComponent) → kind (parameter_of (shape_component k)) ≡ 1
shape_kind by_shape.Not = refl
shape_kind by_shape.Node = refl

shapes_kind : (k : ShapesComponent) → kind (parameter_of (shapes_component k)) ≡ 2
shapes_kind by_shapes.And = refl
shapes_kind by_shapes.Or = refl
shapes_kind by_shapes.Xone = refl

not_kind : (j k : ShapeProperty) (a b : ℕ) → j ≡ k → kind j ≡ a → kind k ≡ b → a ≡ b
not_kind j k a b e l r = sym l ∙ ap kind e ∙ r

-- the places of an option, and each once
in_place : (o : Option ℕ) (n : ℕ) → Contains (optional_place o) n → o ≡ Some n
in_place None n c = absurd (none_in n c)
in_place (Some m) n c = elim (has_cases m [] n c) [ inl e ↦ ap Some e | inr never ↦ absurd (none_in n never) ]

of_place : (o : Option ℕ) (n : ℕ) → o ≡ Some n → Contains (optional_place o) n
of_place None n e = cc
of_place (Some m) n e = has_equal m [] n (cc)

pub once_from : (ns acc : List ℕ) (n : ℕ) → Contains (with_places acc ns) n → Contains acc n ⊎ Contains ns n
once_from [] acc n c = inl c
once_from (m ∷ ns) acc n c = elim (once_from ns (with_item nat_cmp m acc) n c) [
  | inl d ↦ elim (with_cases nat_cmp m acc n d) [ inl e ↦ inr (has_equal m ns n e) | inr k ↦ inl k ]
  | inr d ↦ inr (has_tail m ns n d)
]

pub once_to : (ns acc : List ℕ) (n : ℕ) → Contains acc n ⊎ Contains ns n → Contains (with_places acc ns) n
once_to [] acc n h = elim h [ inl c ↦ c | inr c ↦ absurd (none_in n c) ]
once_to (m ∷ ns) acc n h = once_to ns (with_item nat_cmp m acc) n (elim h [
  | inl c ↦ inl (with_old nat_cmp m acc n c)
  | inr c ↦ elim (has_cases m ns n c) [
    | inl e ↦ inl (subst (λ (k : ℕ). Contains (with_item nat_cmp m acc) k) e (with_new nat_cmp nat_cmp_total nat_cmp-IsAntisymmetric m acc))
    | inr d ↦ inr d
  ]
])

-- the node at a place is one
only_some : {X : Type 0} → (o : Option X) (x y : X) → o ≡ Some x → o ≡ Some y → x ≡ y
only_some o x y e f = let k = sym e ∙ f in cc

pub one_at : (shapes : List ReadShape) (n : ℕ) (t u : Term) → IsAt shapes n t → IsAt shapes n u → t ≡ u
one_at shapes n t u i j = sym i.2 ∙ ap (λ (m : ReadShape). m.node) (only_some (slice_get shapes n) i.0 j.0 i.1 j.1) ∙ j.2

place_of : (shapes : List ReadShape) (ns : List ℕ) (ts : List Term) → AreAt shapes ns ts → (m : Term) → IsMember ts m → (n : ℕ) × Contains ns n × IsAt shapes n m
place_of shapes [] [] at m i = absurd i
place_of shapes [] (t ∷ ts) at m i = absurd at
place_of shapes (n ∷ ns) [] at m i = absurd i
place_of shapes (n ∷ ns) (t ∷ ts) at m i = elim i [
  | inl e ↦ (n, has_equal n ns n refl, subst (λ (u : Term). IsAt shapes n u) e at.0)
  | inr d ↦ (let k = place_of shapes ns ts at.1 m d in (k.0, has_tail n ns k.0 k.1, k.2))
]

of_places : (shapes : List ReadShape) (ns : List ℕ) (ts : List Term) → AreAt shapes ns ts → (n : ℕ) → Contains ns n → (m : Term) → IsAt shapes n m → IsMember ts m
of_places shapes [] ts at n c m i = absurd (none_in n c)
of_places shapes (k ∷ ns) [] at n c m i = absurd at
of_places shapes (k ∷ ns) (t ∷ ts) at n c m i = elim (has_cases k ns n c) [
  | inl e ↦ inl (one_at shapes n t m (subst (λ (p : ℕ). IsAt shapes p t) e at.0) i)
  | inr d ↦ inr (of_places shapes ns ts at.1 n d m i)
]

-- there is a node at each place
pub node_at : (shapes : List ReadShape) (n : ℕ) → n < length shapes → (t : Term) × IsAt shapes n t
node_at [] n lt = absurd (omega (arith, lt))
node_at (c ∷ shapes) zero lt = (c.node, (c, refl, refl))
node_at (c ∷ shapes) (suc n) lt = node_at shapes n (omega (arith, lt))

pub nodes_at : (shapes : List ReadShape) (ns : List ℕ) → All (λ n. n < length shapes) ns → (ts : List Term) × AreAt shapes ns ts
nodes_at shapes [] all = ([], tt)
nodes_at shapes (n ∷ ns) all =
    let first = node_at shapes n (all 0 0 (omega arith)) in
    let rest = nodes_at shapes ns (λ k d lt. all (suc k) d (omega (arith, lt))) in
    (first.0 ∷ rest.0, (first.1, rest.1))

-- the places that a constraint names for a list of shapes are all there
abbrev pub IsWithin : ℕ → Constraint Term → Type 0
IsWithin count (ByTerm component p) = Unit {0}
IsWithin count (ByList component p members) = Unit {0}
IsWithin count (ByShape component p shape) = Unit {0}
IsWithin count (ByShapes component p places) = All (λ n. n < count) places

module _ (shapes : List ReadShape) (c : ReadShape) where
  abbrev Said : Reading
  Said = shape_reading shapes c

  abbrev Told : ShapeProperty → Term → Type 0
  Told property v = (k : Constraint Term) × Contains c.constraints k × IsFor property v k

  one_named : (k : Constraint Term) (j : ShapeProperty) (t : Term) → kind j ≡ 1 → parameter_of (component_of k) ≡ j → parameter k ≡ t → IsLinked shapes k → IsAtSome shapes (constraint_places k) t
  one_named (ByTerm component p) j t one e is linked = elim (term_kind component p) [
    | inl z ↦ absurd (let h = not_kind (parameter_of (term_component component)) j 0 1 e z one in omega (arith, h))
    | inr z ↦ absurd (let h = not_kind (parameter_of (term_component component)) j 3 1 e z.0 one in omega (arith, h))
  ]
  one_named (ByList component p members) j t one e is linked = absurd (let h = not_kind (parameter_of (list_component component)) j 0 1 e (list_kind component) one in omega (arith, h))
  one_named (ByShape component p place) j t one e is linked = (place, has_head place [], subst (λ (u : Term). IsAt shapes place u) is linked)
  one_named (ByShapes component p places) j t one e is linked = absurd (let h = not_kind (parameter_of (shapes_component component)) j 2 1 e (shapes_kind component) one in omega (arith, h))

  several_named : (k : Constraint Term) (j : ShapeProperty) (ms : List Term) (t : Term) → kind j ≡ 2 → parameter_of (component_of k) ≡ j → HasMembers shapes k ms → IsMember ms t → IsAtSome shapes (constraint_places k) t
  several_named (ByTerm component p) j ms t two e has i = absurd has
  several_named (ByList component p members) j ms t two e has i = absurd (let h = not_kind (parameter_of (list_component component)) j 0 2 e (list_kind component) two in omega (arith, h))
  several_named (ByShape component p place) j ms t two e has i = absurd has
  several_named (ByShapes component p places) j ms t two e has i = place_of shapes places ms has t i

  counts : (k : Constraint Term) (j : ShapeProperty) → kind j ≡ 3 → parameter_of (component_of k) ≡ j → is_count k ≡ true
  counts (ByTerm component p) j three e = elim (term_kind component p) [
    | inl z ↦ absurd (let h = not_kind (parameter_of (term_component component)) j 0 3 e z three in omega (arith, h))
    | inr z ↦ z.1
  ]
  counts (ByList component p members) j three e = absurd (let h = not_kind (parameter_of (list_component component)) j 0 3 e (list_kind component) three in omega (arith, h))
  counts (ByShape component p place) j three e = absurd (let h = not_kind (parameter_of (shape_component component)) j 1 3 e (shape_kind component) three in omega (arith, h))
  counts (ByShapes component p places) j three e = absurd (let h = not_kind (parameter_of (shapes_component component)) j 2 3 e (shapes_kind component) three in omega (arith, h))

  -- the parts of the places that are named
  of_properties : (n : ℕ) → Contains c.properties n → Contains (referred_places c) n
  of_properties n i =
      Contains-append_left (c.properties ++ flat_map constraint_places c.constraints) (qualified_places c) n
      (Contains-append_left c.properties (flat_map constraint_places c.constraints) n i)

  of_constraints : (n : ℕ) → Contains (flat_map constraint_places c.constraints) n → Contains (referred_places c) n
  of_constraints n i =
      Contains-append_left (c.properties ++ flat_map constraint_places c.constraints) (qualified_places c) n
      (Contains-append_right c.properties (flat_map constraint_places c.constraints) n i)

  of_qualified : (n : ℕ) → Contains (qualified_places c) n → Contains (referred_places c) n
  of_qualified n i = Contains-append_right (c.properties ++ flat_map constraint_places c.constraints) (qualified_places c) n i

  module _ (each : (k : Constraint Term) → Contains c.constraints k → IsLinked shapes k) (within : (k : Constraint Term) → Contains c.constraints k → IsWithin (length shapes) k) where
    abbrev IsNamed : Term → Type 0
    IsNamed t = (n : ℕ) × Contains (referred_places c) n × IsAt shapes n t

    by_one : (j : ShapeProperty) (t : Term) → kind j ≡ 1 → Told j t → IsNamed t
    by_one j t one h =
        let a = one_named h.0 j t one h.2.0 h.2.1 (each h.0 h.1) in
        (a.0, of_constraints a.0 (flat_to constraint_places c.constraints h.0 a.0 h.1 a.1), a.2)

    by_several : (j : ShapeProperty) (t : Term) → kind j ≡ 2 → HasMember Said j t → IsNamed t
    by_several j t two h =
        let l = h.2 in
        let a = several_named l.0 j h.1 t two l.2.0 l.3 h.3 in
        (a.0, of_constraints a.0 (flat_to constraint_places c.constraints l.0 a.0 l.1 a.1), a.2)

    pub is_counted : HasQualifiedCount Said → list_any is_count c.constraints ≡ true
    is_counted h = elim h.1 [
      | inl i ↦ any_to is_count c.constraints i.0 i.1 (counts i.0 ShQualifiedMinCount refl i.2.0)
      | inr i ↦ any_to is_count c.constraints i.0 i.1 (counts i.0 ShQualifiedMaxCount refl i.2.0)
    ]

    all_qualified : HasQualifiedCount Said → (n : ℕ) → Contains (optional_place c.qualified ++ with_places [] c.siblings) n → Contains (qualified_places c) n
    all_qualified h n i = subst (λ (b : Bool). Contains (if b then optional_place c.qualified ++ with_places [] c.siblings else []) n) (sym (is_counted h)) i

    -- the place of a shape that is referred to
    pub place_named : (t : Term) → Refers Said t → IsNamed t
    place_named t = elim [
      | inl i ↦ by_one ShNot t refl i
      | inr (inl i) ↦ by_one ShNode t refl i
      | inr (inr (inl i)) ↦ (i.0, of_properties i.0 i.1, i.2)
      | inr (inr (inr (inl i))) ↦ by_several ShAnd t refl i
      | inr (inr (inr (inr (inl i)))) ↦ by_several ShOr t refl i
      | inr (inr (inr (inr (inr (inl i))))) ↦ by_several ShXone t refl i
      | inr (inr (inr (inr (inr (inr (inl i)))))) ↦ (i.1.0, of_qualified i.1.0 (all_qualified i.0 i.1.0 (Contains-append_left (optional_place c.qualified) (with_places [] c.siblings) i.1.0 (of_place c.qualified i.1.0 i.1.1))), i.1.2)
      | inr (inr (inr (inr (inr (inr (inr i)))))) ↦ (i.1.0, of_qualified i.1.0 (all_qualified i.0 i.1.0 (Contains-append_right (optional_place c.qualified) (with_places [] c.siblings) i.1.0 (once_to c.siblings [] i.1.0 (inr i.1.1)))), i.1.2)
    ]

    -- and back
    by_constraint : (k : Constraint Term) → Contains c.constraints k → (n : ℕ) (t : Term) → Contains (constraint_places k) n → IsAt shapes n t → IsLinked shapes k → IsWithin (length shapes) k → Refers Said t
    by_constraint (ByTerm component p) i n t a at link in_range = absurd (none_in n a)
    by_constraint (ByList component p members) i n t a at link in_range = absurd (none_in n a)
    by_constraint (ByShape by_shape.Not p place) i n t a at link in_range =
        inl (ByShape by_shape.Not p place, i, (refl, one_at shapes n p t (subst (λ (m : ℕ). IsAt shapes m p) (only place n a) link) at))
      where
        only : (m n : ℕ) → Contains (m ∷ []) n → m ≡ n
        only m n d = elim (has_cases m [] n d) [ inl e ↦ e | inr never ↦ absurd (none_in n never) ]
    by_constraint (ByShape by_shape.Node p place) i n t a at link in_range =
        inr (inl (ByShape by_shape.Node p place, i, (refl, one_at shapes n p t (subst (λ (m : ℕ). IsAt shapes m p) (only place n a) link) at)))
      where
        only : (m n : ℕ) → Contains (m ∷ []) n → m ≡ n
        only m n d = elim (has_cases m [] n d) [ inl e ↦ e | inr never ↦ absurd (none_in n never) ]
    by_constraint (ByShapes by_shapes.And p places) i n t a at link in_range =
        let all = nodes_at shapes places in_range in
        inr (inr (inr (inl (p, all.0, (ByShapes by_shapes.And p places, i, (refl, refl), all.1), of_places shapes places all.0 all.1 n a t at))))
    by_constraint (ByShapes by_shapes.Or p places) i n t a at link in_range =
        let all = nodes_at shapes places in_range in
        inr (inr (inr (inr (inl (p, all.0, (ByShapes by_shapes.Or p places, i, (refl, refl), all.1), of_places shapes places all.0 all.1 n a t at)))))
    by_constraint (ByShapes by_shapes.Xone p places) i n t a at link in_range =
        let all = nodes_at shapes places in_range in
        inr (inr (inr (inr (inr (inl (p, all.0, (ByShapes by_shapes.Xone p places, i, (refl, refl), all.1), of_places shapes places all.0 all.1 n a t at))))))

    pub count_of : (k : Constraint Term) → Contains c.constraints k → is_count k ≡ true → HasQualifiedCount Said
    count_of (ByTerm by_term.QualifiedMinCount p) i e = (p, inl (ByTerm by_term.QualifiedMinCount p, i, (refl, refl)))
    count_of (ByTerm by_term.QualifiedMaxCount p) i e = (p, inr (ByTerm by_term.QualifiedMaxCount p, i, (refl, refl)))
    count_of (ByTerm component p) i e = cc
    count_of (ByList component p members) i e = cc
    count_of (ByShape component p place) i e = cc
    count_of (ByShapes component p places) i e = cc

    by_qualified : (b : Bool) → list_any is_count c.constraints ≡ b → (n : ℕ) (t : Term) → Contains (if b then optional_place c.qualified ++ with_places [] c.siblings else []) n → IsAt shapes n t → Refers Said t
    by_qualified false e n t i at = absurd (none_in n i)
    by_qualified true e n t i at =
        let k = any_from is_count c.constraints e in
        let h = count_of k.0 k.1 k.2 in
        elim (Contains-append_cases (optional_place c.qualified) (with_places [] c.siblings) n i) [
          | inl d ↦ inr (inr (inr (inr (inr (inr (inl (h, (n, in_place c.qualified n d, at))))))))
          | inr d ↦ elim (once_from c.siblings [] n d) [
            | inl never ↦ absurd (none_in n never)
            | inr s ↦ inr (inr (inr (inr (inr (inr (inr (h, (n, s, at))))))))
          ]
        ]

    pub named_refers : (n : ℕ) (t : Term) → Contains (referred_places c) n → IsAt shapes n t → Refers Said t
    named_refers n t i at = elim (Contains-append_cases (c.properties ++ flat_map constraint_places c.constraints) (qualified_places c) n i) [
      | inl d ↦ elim (Contains-append_cases c.properties (flat_map constraint_places c.constraints) n d) [
        | inl e ↦ inr (inr (inl (n, e, at)))
        | inr e ↦ (let k = flat_from constraint_places c.constraints n e in by_constraint k.0 k.1 n t k.2 at (each k.0 k.1) (within k.0 k.1))
      ]
      | inr d ↦ by_qualified (list_any is_count c.constraints) refl n t d at
    ]
