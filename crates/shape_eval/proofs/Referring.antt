-- The shapes that a compiled shape refers to are those at the places that its constraints ask and at those of its property
-- shapes.
use Rattle.std.proofs.Common.{◌≡◌, ◌∙◌, ℕ, ◌<◌, List, [], length, map, refl, sym, ap, arith, subst, inl, inr}
use Rattle.std.specs.Prelude.{◌⊎◌, Option, Some, None}
use Rattle.std.specs.List.{All, Contains}
use Rattle.std.proofs.lemmas.List.Elements.{All-contains}
use Rattle.collections.proofs.Members.{has_cases, has_equal}
use Rattle.rdf_model.specs.declared.term.Term.{Term}
use Rattle.rdf_model.specs.Numbers.{term_at}
use Rattle.shape_model.specs.declared.component.Component.{Component}
use Rattle.shape_model.specs.declared.component.Component.TheVariants as components
use Rattle.shape_model.specs.Components.{parameter_of}
use Rattle.shape_model.specs.Readings.{HasMember, HasQualifiedCount, Reading, Refers}
use Rattle.shape_model.specs.Triples.{IsMember}
use Rattle.component_rows.proofs.Collecting.{mapped_from, mapped_to}
use Rattle.shape_ast.specs.declared.component.TermComponent.{TermComponent}
use Rattle.shape_ast.specs.declared.component.TermComponent.TheVariants as by_term
use Rattle.shape_ast.specs.declared.component.ListComponent.{ListComponent}
use Rattle.shape_ast.specs.declared.component.ListComponent.TheVariants as by_list
use Rattle.shape_ast.specs.declared.component.ShapeComponent.{ShapeComponent}
use Rattle.shape_ast.specs.declared.component.ShapeComponent.TheVariants as by_shape
use Rattle.shape_ast.specs.declared.component.ShapesComponent.{ShapesComponent}
use Rattle.shape_ast.specs.declared.component.ShapesComponent.TheVariants as by_shapes
use Rattle.shape_ast.specs.declared.constraint.Constraint.{Constraint}
use Rattle.shape_ast.specs.declared.constraint.Constraint.TheVariants.{ByTerm, ByList, ByShape, ByShapes}
use Rattle.shape_ast.specs.declared.shape.Shape.{Shape}
use Rattle.shape_ast.specs.Components.{term_component, list_component, shape_component, shapes_component}
use Rattle.shape_ast.specs.Readings.{HoldsOfConstraint, component_of, named_shapes, parameter, read_constraint, read_shape}
use Rattle.shape_ast.specs.Standing.{HasMembers, IsAt, IsFor, IsLinked, shape_reading}
use Rattle.shape_eval.specs.Told.{Asks, AsksSome, CountAsks, node_at, places_in}
use Rattle.shape_eval.proofs.Constraints.{same_component}
use Rattle.shape_eval.proofs.Lookups.{are_at, of_places, one_at, place_of}

-- whether the parameter of a component is one shape (1), a list of shapes (2), a count of shapes (3), or none of these
abbrev kind : Component → ℕ
kind components.Not = 1
kind components.Node = 1
kind components.And = 2
kind components.Or = 2
kind components.Xone = 2
kind components.QualifiedMinCount = 3
kind components.QualifiedMaxCount = 3
kind component = 0

list_kind : (k : ListComponent) → kind (list_component k) ≡ 0
list_kind by_list.LanguageIn = refl
list_kind by_list.In = refl

shape_kind : (k : ShapeComponent) → kind (shape_component k) ≡ 1
shape_kind by_shape.Not = refl
shape_kind by_shape.Node = refl

shapes_kind : (k : ShapesComponent) → kind (shapes_component k) ≡ 2
shapes_kind by_shapes.And = refl
shapes_kind by_shapes.Or = refl
shapes_kind by_shapes.Xone = refl

in_places : (o : Option ℕ) (n : ℕ) → Contains (places_in o) n → o ≡ Some n
in_places None n c = absurd (omega arith)
in_places (Some m) n c = elim (has_cases m [] n c) [ inl e ↦ ap Some e | inr never ↦ absurd (omega arith) ]

of_some : (o : Option ℕ) (n : ℕ) → o ≡ Some n → Contains (places_in o) n
of_some None n e = cc
of_some (Some m) n e = has_equal m [] n (cc)

module _ (terms : List Term) (shapes : List (Shape ℕ)) (x : Shape ℕ) where
  term_kind : (k : TermComponent) → (kind (term_component k) ≡ 0) ⊎ ((kind (term_component k) ≡ 3) × ((n : ℕ) → Contains (places_in x.qualified) n ⊎ Contains x.siblings n → CountAsks x k n))
  term_kind by_term.QualifiedMinCount = inr (refl, λ n a. a)
  term_kind by_term.QualifiedMaxCount = inr (refl, λ n a. a)
  term_kind k = inl refl

  abbrev Said : Reading
  Said = shape_reading (named_shapes terms shapes) (read_shape (term_at terms) x)

  abbrev read : Constraint ℕ → Constraint Term
  read k = read_constraint (term_at terms) k

  -- some constraint of the list asks the place of the term
  abbrev IsAsked : Constraint ℕ → Term → Type 0
  IsAsked k t = (n : ℕ) × Asks x k n × IsAt (named_shapes terms shapes) n t

  not_kind : (j k : Component) (a b : ℕ) → j ≡ k → kind j ≡ a → kind k ≡ b → a ≡ b
  not_kind j k a b e l r = sym l ∙ ap kind e ∙ r

  -- a constraint of a component of one shape
  one_asked : (k : Constraint ℕ) (j : Component) (t : Term) → kind j ≡ 1 → component_of (read k) ≡ j → parameter (read k) ≡ t → IsLinked (named_shapes terms shapes) (read k) → IsAsked k t
  one_asked (ByTerm component q) j t one e is linked = elim (term_kind component) [
    | inl z ↦ absurd (let h = not_kind (term_component component) j 0 1 e z one in omega (arith, h))
    | inr z ↦ absurd (let h = not_kind (term_component component) j 3 1 e z.0 one in omega (arith, h))
  ]
  one_asked (ByList component q members) j t one e is linked = absurd (let h = not_kind (list_component component) j 0 1 e (list_kind component) one in omega (arith, h))
  one_asked (ByShape component q place) j t one e is linked = (place, refl, subst (λ (u : Term). IsAt (named_shapes terms shapes) place u) is linked)
  one_asked (ByShapes component q places) j t one e is linked = absurd (let h = not_kind (shapes_component component) j 2 1 e (shapes_kind component) one in omega (arith, h))

  -- of a component of a list of shapes
  several_asked : (k : Constraint ℕ) (j : Component) (ms : List Term) (t : Term) → kind j ≡ 2 → component_of (read k) ≡ j → HasMembers (named_shapes terms shapes) (read k) ms → IsMember ms t → IsAsked k t
  several_asked (ByTerm component q) j ms t two e has i = absurd has
  several_asked (ByList component q members) j ms t two e has i = absurd (let h = not_kind (list_component component) j 0 2 e (list_kind component) two in omega (arith, h))
  several_asked (ByShape component q place) j ms t two e has i = absurd has
  several_asked (ByShapes component q places) j ms t two e has i = place_of (named_shapes terms shapes) places ms has t i

  -- of a qualified count
  count_asked : (k : Constraint ℕ) (j : Component) → kind j ≡ 3 → component_of (read k) ≡ j → (n : ℕ) → Contains (places_in x.qualified) n ⊎ Contains x.siblings n → Asks x k n
  count_asked (ByTerm component q) j three e n a = elim (term_kind component) [
    | inl z ↦ absurd (let h = not_kind (term_component component) j 0 3 e z three in omega (arith, h))
    | inr z ↦ z.1 n a
  ]
  count_asked (ByList component q members) j three e n a = absurd (let h = not_kind (list_component component) j 0 3 e (list_kind component) three in omega (arith, h))
  count_asked (ByShape component q place) j three e n a = absurd (let h = not_kind (shape_component component) j 1 3 e (shape_kind component) three in omega (arith, h))
  count_asked (ByShapes component q places) j three e n a = absurd (let h = not_kind (shapes_component component) j 2 3 e (shapes_kind component) three in omega (arith, h))

  module _ (count : ℕ) (holds : All (HoldsOfConstraint (λ n. n < count) (length shapes)) x.constraints) (linked : All (IsLinked (named_shapes terms shapes)) (map (read_constraint (term_at terms)) x.constraints)) where
    -- the constraint as it was compiled
    abbrev WasRead : Constraint Term → Type 0
    WasRead j = (k : Constraint ℕ) × Contains x.constraints k × (read k ≡ j)

    was : (j : Constraint Term) → Contains (map (read_constraint (term_at terms)) x.constraints) j → WasRead j
    was j c = mapped_from (read_constraint (term_at terms)) x.constraints j c

    abbrev IsAskedBySome : Term → Type 0
    IsAskedBySome t = (n : ℕ) × AsksSome x x.constraints n × IsAt (named_shapes terms shapes) n t

    by_one : (j : Component) (t : Term) → kind j ≡ 1 → ((k : Constraint Term) × Contains (map (read_constraint (term_at terms)) x.constraints) k × IsFor (parameter_of j) t k) → IsAskedBySome t
    by_one j t one h =
        let k = was h.0 h.1 in
        let link = subst (λ (i : Constraint Term). IsLinked (named_shapes terms shapes) i) (sym k.2) (All-contains (IsLinked (named_shapes terms shapes)) (map (read_constraint (term_at terms)) x.constraints) h.0 linked h.1) in
        let a = one_asked k.0 j t one (ap component_of k.2 ∙ same_component (component_of h.0) j h.2.0) (ap parameter k.2 ∙ h.2.1) link in
        (a.0, (k.0, k.1, a.1), a.2)

    by_several : (j : Component) (t : Term) → kind j ≡ 2 → HasMember Said (parameter_of j) t
        → ((head : Term) (ms : List Term) → Said.has_list (parameter_of j) head ms → (k : Constraint Term) × Contains (map (read_constraint (term_at terms)) x.constraints) k × IsFor (parameter_of j) head k × HasMembers (named_shapes terms shapes) k ms)
        → IsAskedBySome t
    by_several j t two h listed =
        let l = listed h.0 h.1 h.2 in
        let k = was l.0 l.1 in
        let has = subst (λ (i : Constraint Term). HasMembers (named_shapes terms shapes) i h.1) (sym k.2) l.3 in
        let a = several_asked k.0 j h.1 t two (ap component_of k.2 ∙ same_component (component_of l.0) j l.2.0) has h.3 in
        (a.0, (k.0, k.1, a.1), a.2)

    by_count : HasQualifiedCount Said → (n : ℕ) → Contains (places_in x.qualified) n ⊎ Contains x.siblings n → AsksSome x x.constraints n
    by_count h n a = elim h.1 [
      | inl i ↦ (let k = was i.0 i.1 in (k.0, k.1, count_asked k.0 components.QualifiedMinCount refl (ap component_of k.2 ∙ same_component (component_of i.0) components.QualifiedMinCount i.2.0) n a))
      | inr i ↦ (let k = was i.0 i.1 in (k.0, k.1, count_asked k.0 components.QualifiedMaxCount refl (ap component_of k.2 ∙ same_component (component_of i.0) components.QualifiedMaxCount i.2.0) n a))
    ]

    -- the place of a shape that is referred to
    pub place_asked : (t : Term) → Refers Said t → (n : ℕ) × (AsksSome x x.constraints n ⊎ Contains x.properties n) × IsAt (named_shapes terms shapes) n t
    place_asked t = elim [
      | inl i ↦ left (by_one components.Not t refl i)
      | inr (inl i) ↦ left (by_one components.Node t refl i)
      | inr (inr (inl i)) ↦ (i.0, inr i.1, i.2)
      | inr (inr (inr (inl i))) ↦ left (by_several components.And t refl i (λ head ms l. l))
      | inr (inr (inr (inr (inl i)))) ↦ left (by_several components.Or t refl i (λ head ms l. l))
      | inr (inr (inr (inr (inr (inl i))))) ↦ left (by_several components.Xone t refl i (λ head ms l. l))
      | inr (inr (inr (inr (inr (inr (inl i)))))) ↦ (i.1.0, inl (by_count i.0 i.1.0 (inl (of_some x.qualified i.1.0 i.1.1))), i.1.2)
      | inr (inr (inr (inr (inr (inr (inr i)))))) ↦ (i.1.0, inl (by_count i.0 i.1.0 (inr i.1.1)), i.1.2)
    ]
      where
        left : IsAskedBySome t → (n : ℕ) × (AsksSome x x.constraints n ⊎ Contains x.properties n) × IsAt (named_shapes terms shapes) n t
        left a = (a.0, inl a.1, a.2)

    -- and back
    counted : HasQualifiedCount Said → (n : ℕ) (t : Term) → IsAt (named_shapes terms shapes) n t → Contains (places_in x.qualified) n ⊎ Contains x.siblings n → Refers Said t
    counted h n t at = elim [
      | inl c ↦ inr (inr (inr (inr (inr (inr (inl (h, (n, in_places x.qualified n c, at))))))))
      | inr c ↦ inr (inr (inr (inr (inr (inr (inr (h, (n, c, at))))))))
    ]

    by_term_asked : (component : TermComponent) (q : ℕ) → Contains x.constraints (ByTerm component q) → (n : ℕ) (t : Term) → IsAt (named_shapes terms shapes) n t → CountAsks x component n → Refers Said t
    by_term_asked by_term.QualifiedMinCount q i n t at a =
        counted (term_at terms q, inl (ByTerm by_term.QualifiedMinCount (term_at terms q), mapped_to (read_constraint (term_at terms)) x.constraints (ByTerm by_term.QualifiedMinCount q) i, (refl, refl))) n t at a
    by_term_asked by_term.QualifiedMaxCount q i n t at a =
        counted (term_at terms q, inr (ByTerm by_term.QualifiedMaxCount (term_at terms q), mapped_to (read_constraint (term_at terms)) x.constraints (ByTerm by_term.QualifiedMaxCount q) i, (refl, refl))) n t at a
    by_term_asked component q i n t at a = absurd a

    -- the members of a list of shapes at some places
    abbrev members : List ℕ → List Term
    members places = map (term_at terms) (map (node_at shapes) places)

    asked : (k : Constraint ℕ) → Contains x.constraints k → HoldsOfConstraint (λ n. n < count) (length shapes) k → IsLinked (named_shapes terms shapes) (read k) → (n : ℕ) (t : Term) → Asks x k n → IsAt (named_shapes terms shapes) n t → Refers Said t
    asked (ByTerm component q) i bound link n t a at = by_term_asked component q i n t at a
    asked (ByList component q ms) i bound link n t a at = absurd a
    asked (ByShape by_shape.Not q place) i bound link n t a at =
        inl (
          ByShape by_shape.Not (term_at terms q) place,
          mapped_to (read_constraint (term_at terms)) x.constraints (ByShape by_shape.Not q place) i,
          (refl, one_at (named_shapes terms shapes) n (term_at terms q) t (subst (λ (p : ℕ). IsAt (named_shapes terms shapes) p (term_at terms q)) a link) at),
        )
    asked (ByShape by_shape.Node q place) i bound link n t a at =
        inr (inl (
          ByShape by_shape.Node (term_at terms q) place,
          mapped_to (read_constraint (term_at terms)) x.constraints (ByShape by_shape.Node q place) i,
          (refl, one_at (named_shapes terms shapes) n (term_at terms q) t (subst (λ (p : ℕ). IsAt (named_shapes terms shapes) p (term_at terms q)) a link) at),
        ))
    asked (ByShapes by_shapes.And q places) i bound link n t a at =
        let all = are_at terms shapes places bound.1 in
        inr (inr (inr (inl (
          term_at terms q,
          members places,
          (ByShapes by_shapes.And (term_at terms q) places, mapped_to (read_constraint (term_at terms)) x.constraints (ByShapes by_shapes.And q places) i, (refl, refl), all),
          of_places (named_shapes terms shapes) places (members places) all n a t at,
        ))))
    asked (ByShapes by_shapes.Or q places) i bound link n t a at =
        let all = are_at terms shapes places bound.1 in
        inr (inr (inr (inr (inl (
          term_at terms q,
          members places,
          (ByShapes by_shapes.Or (term_at terms q) places, mapped_to (read_constraint (term_at terms)) x.constraints (ByShapes by_shapes.Or q places) i, (refl, refl), all),
          of_places (named_shapes terms shapes) places (members places) all n a t at,
        )))))
    asked (ByShapes by_shapes.Xone q places) i bound link n t a at =
        let all = are_at terms shapes places bound.1 in
        inr (inr (inr (inr (inr (inl (
          term_at terms q,
          members places,
          (ByShapes by_shapes.Xone (term_at terms q) places, mapped_to (read_constraint (term_at terms)) x.constraints (ByShapes by_shapes.Xone q places) i, (refl, refl), all),
          of_places (named_shapes terms shapes) places (members places) all n a t at,
        ))))))

    pub asked_refers : (n : ℕ) (t : Term) → AsksSome x x.constraints n ⊎ Contains x.properties n → IsAt (named_shapes terms shapes) n t → Refers Said t
    asked_refers n t a at = elim a [
      | inl k ↦ asked k.0 k.1 (All-contains (HoldsOfConstraint (λ n. n < count) (length shapes)) x.constraints k.0 holds k.1)
          (All-contains (IsLinked (named_shapes terms shapes)) (map (read_constraint (term_at terms)) x.constraints) (read k.0) linked (mapped_to (read_constraint (term_at terms)) x.constraints k.0 k.1)) n t k.2 at
      | inr c ↦ inr (inr (inl (n, c, at)))
    ]
