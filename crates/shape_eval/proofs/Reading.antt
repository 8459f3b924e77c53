-- The looks of a compiled shape are those of its path, of its constraints, and of the shapes that it refers to.
use Rattle.std.proofs.Common.{◌≡◌, ◌∙◌, ℕ, zero, suc, false, List, length, refl, sym, ap, subst, inl, inr}
use Rattle.std.specs.Prelude.{◌⊎◌, ◌↔◌, Option, Some, None, IsTrue, slice_get}
use Rattle.std.specs.List.{Contains}
use Rattle.rdf_model.specs.declared.term.Term.{Term}
use Rattle.rdf_model.specs.declared.triple.Triple.{Triple}
use Rattle.rdf_model.specs.declared.ids.Ids.{Ids}
use Rattle.rdf_model.specs.declared.look.Look.{Look}
use Rattle.rdf_model.specs.declared.look.Look.TheVariants.{Out, OutAny}
use Rattle.rdf_model.specs.Numbers.{graph_of, term_at}
use Rattle.shape_model.specs.declared.component.Component.{Component}
use Rattle.shape_model.specs.declared.component.Component.TheVariants as components
use Rattle.shape_model.specs.Components.{parameter_of}
use Rattle.shape_model.specs.Instances.{class_path}
use Rattle.shape_model.specs.NodeLooks.{PathReads, ShapeReads}
use Rattle.shape_model.specs.Paths.{Path as DefinedPath}
use Rattle.shape_model.specs.Readings.{IsClosed, IsCompared, Reading, Refers, SameReading, ValueNode, reading}
use Rattle.shape_model.specs.Vocabulary.{ShClass, ShClosed, ShDeactivated, true_literal}
use Rattle.shape_model.proofs.Surroundings.{compared_same, reading_back, refers_same}
use Rattle.component_rows.specs.Nodes.{HasNode}
use Rattle.path_eval.specs.Naming.{AddsLooks}
use Rattle.path_eval.proofs.Footprints.{looks_more, looks_none, looks_same}
use Rattle.shape_ast.specs.declared.component.ListComponent.{ListComponent}
use Rattle.shape_ast.specs.declared.component.ListComponent.TheVariants as by_list
use Rattle.shape_ast.specs.declared.component.ShapeComponent.{ShapeComponent}
use Rattle.shape_ast.specs.declared.component.ShapeComponent.TheVariants as by_shape
use Rattle.shape_ast.specs.declared.component.ShapesComponent.{ShapesComponent}
use Rattle.shape_ast.specs.declared.component.ShapesComponent.TheVariants as by_shapes
use Rattle.shape_ast.specs.declared.constraint.Constraint.{Constraint}
use Rattle.shape_ast.specs.Components.{list_component, shape_component, shapes_component}
use Rattle.shape_ast.specs.declared.shape.Shape.{Shape}
use Rattle.shape_ast.specs.Readings.{AreBound, ReadShape, component_of, named_shapes, parameter, read_optional_path, read_shape}
use Rattle.shape_ast.proofs.Agreeing.{same_but_path, same_on, with_path}
use Rattle.shape_ast.specs.Standing.{IsFor, SameShape, StandFor, shape_reading}
use Rattle.shape_eval.specs.Looks.{AddsAt, AddsAtPlaces, ComponentReads, ConstraintReads, OptionalReads, PlaceReads, ReadsOfSome}
use Rattle.shape_eval.specs.Told.{AsksSome}
use Rattle.shape_eval.specs.ValueNodes.{AreValueNodes, IsValueNode}
use Rattle.shape_eval.proofs.Constraints.{same_component}
use Rattle.shape_eval.proofs.Evaluations.{bound_at}
use Rattle.shape_eval.proofs.Lookups.{named_place, of_place, read_here}
use Rattle.shape_eval.proofs.Referring.{asked_refers, place_asked}
use Rattle.shape_eval.proofs.Values.{values_same}

-- what the constraints of a shape look at, in the words of its reading
module _ (named : List ReadShape) (c : ReadShape) (g : List Triple) (IsValue : Term → Type 0) (f : Term) (look : Look Term) where
  abbrev Said : Reading
  Said = shape_reading named c

  abbrev Own : Type 0
  Own = ReadsOfSome c.constraints (ConstraintReads g IsValue f) look

  abbrev Kept : Component → Term → Type 0
  Kept j q = (k : Constraint Term) × Contains c.constraints k × IsFor (parameter_of j) q k

  own : (j : Component) (q : Term) → Kept j q → ComponentReads g IsValue f j q look → Own
  own j q k h =
      let from = sym (same_component (component_of k.0) j k.2.0) in let value = sym k.2.1 in
      (k.0, k.1, subst (λ (x : Component × Term). ComponentReads g IsValue f x.0 x.1 look) (λ i. (from i, value i)) h)

  pub own_class : (q : Term) → Said.has ShClass q → (v : Term) → IsValue v → PathReads g false class_path v look → Own
  own_class q h v i r = own components.Class q h (v, i, r)

  pub own_compared : (p : Term) → IsCompared Said p → look ≡ Out f p → Own
  own_compared p h e = elim h [
    | inl i ↦ own components.Equals p i e
    | inr (inl i) ↦ own components.Disjoint p i e
    | inr (inr (inl i)) ↦ own components.LessThan p i e
    | inr (inr (inr i)) ↦ own components.LessThanOrEquals p i e
  ]

  pub own_closed : IsClosed Said → (v : Term) → IsValue v → look ≡ OutAny v → Own
  own_closed h v i e = own components.Closed true_literal h (refl, (v, i, e))

  -- and back
  abbrev Parts : Type 0
  Parts =
      ((q : Term) × (v : Term) × Said.has ShClass q × IsValue v × PathReads g false class_path v look)
      ⊎ ((p : Term) × IsCompared Said p × (look ≡ Out f p))
      ⊎ (IsClosed Said × ((v : Term) × IsValue v × (look ≡ OutAny v)))

  part : (k : Constraint Term) → Contains c.constraints k → (j : Component) (q : Term) → component_of k ≡ j → parameter k ≡ q → ComponentReads g IsValue f j q look → Parts
  part k i components.Class q e is h = inl (q, h.0, (k, i, (ap parameter_of e, is)), h.1, h.2)
  part k i components.Equals q e is h = inr (inl (q, inl (k, i, (ap parameter_of e, is)), h))
  part k i components.Disjoint q e is h = inr (inl (q, inr (inl (k, i, (ap parameter_of e, is))), h))
  part k i components.LessThan q e is h = inr (inl (q, inr (inr (inl (k, i, (ap parameter_of e, is)))), h))
  part k i components.LessThanOrEquals q e is h = inr (inl (q, inr (inr (inr (k, i, (ap parameter_of e, is)))), h))
  part k i components.Closed q e is h = inr (inr ((k, i, (ap parameter_of e, is ∙ h.0)), h.1))
  part k i j q e is h = absurd h

  pub own_parts : Own → Parts
  own_parts h = part h.0 h.1 (component_of h.0) (parameter h.0) refl refl h.2

-- a component whose parameter is a list or names shapes looks at nothing by itself
module _ (g : List Triple) (IsValue : Term → Type 0) (f : Term) where
  pub no_list_reads : (k : ListComponent) (q : Term) (look : Look Term) → ComponentReads g IsValue f (list_component k) q look → ⊥
  no_list_reads by_list.LanguageIn q look h = h
  no_list_reads by_list.In q look h = h

  pub no_shape_reads : (k : ShapeComponent) (q : Term) (look : Look Term) → ComponentReads g IsValue f (shape_component k) q look → ⊥
  no_shape_reads by_shape.Not q look h = h
  no_shape_reads by_shape.Node q look h = h

  pub no_shapes_reads : (k : ShapesComponent) (q : Term) (look : Look Term) → ComponentReads g IsValue f (shapes_component k) q look → ⊥
  no_shapes_reads by_shapes.And q look h = h
  no_shapes_reads by_shapes.Or q look h = h
  no_shapes_reads by_shapes.Xone q look h = h

-- the looks of the path
path_some : (g : List Triple) (o : Option DefinedPath) (p : DefinedPath) (f : Term) (look : Look Term) → o ≡ Some p → PathReads g false p f look → OptionalReads g o f look
path_some g None p f look e h = cc
path_some g (Some q) p f look e h = subst (λ (o : Option DefinedPath). OptionalReads g o f look) (sym e) h

some_path : (g : List Triple) (o : Option DefinedPath) (f : Term) (look : Look Term) → OptionalReads g o f look → (p : DefinedPath) × (o ≡ Some p) × PathReads g false p f look
some_path g None f look h = absurd h
some_path g (Some p) f look h = (p, refl, h)

module _ (terms : List Term) (ids : List Ids) (shapes : List (Shape ℕ)) (bound : AreBound terms shapes) (place : ℕ) (x : Shape ℕ) (taken : slice_get shapes place ≡ Some x) (s : List Triple) (stand : StandFor (named_shapes terms shapes) s) where
  abbrev named : List ReadShape
  named = named_shapes terms shapes

  abbrev c : ReadShape
  c = read_shape (term_at terms) x

  stands : Contains named c
  stands = of_place named place c (named_place terms shapes place x taken)

  agreed : SameShape (reading s c.node) (shape_reading named c)
  agreed = stand.each c stands

  -- its reading with the path that it was compiled with
  abbrev kept : Reading
  kept = with_path (reading s c.node) (shape_reading named c)

  same_kept : SameReading kept (shape_reading named c)
  same_kept = same_but_path (reading s c.node) (shape_reading named c) agreed

  -- those of the shapes at the places that its constraints ask, and at those of its property shapes
  abbrev Referred : ℕ → List ℕ → Look Term → Type 0
  Referred n values look = (m : Term) × (v : Term) × Refers (reading s c.node) m × HasNode terms values v × ShapeReads n (graph_of terms ids) (reading s) m v look

  referred : (n : ℕ) (values : List ℕ) (asked : List ℕ) → ((p : ℕ) → Contains asked p ↔ AsksSome x x.constraints p) → (look : Look Term)
      → Referred n values look ↔ (ReadsOfSome asked (PlaceReads terms ids shapes s n values) look ⊎ ReadsOfSome x.properties (PlaceReads terms ids shapes s n values) look)
  referred n values asked are look =
      let constraints = (bound_at terms shapes bound place x taken).constraints in
      let linked = stand.linked c stands in (
        λ h.
            let p = place_asked terms shapes x (length terms) constraints linked h.0 (refers_same kept (shape_reading named c) same_kept h.0 h.2) in
            elim p.1 [
              | inl a ↦ inl (p.0, (are p.0).1 a, (h.0, p.2, (h.1, h.3, h.4)))
              | inr a ↦ inr (p.0, a, (h.0, p.2, (h.1, h.3, h.4)))
            ],
        λ h.
            let back = refers_same (shape_reading named c) kept (reading_back kept (shape_reading named c) same_kept) in
            elim h [
              | inl k ↦ (k.2.0, k.2.2.0, back k.2.0 (asked_refers terms shapes x (length terms) constraints linked k.0 k.2.0 (inl ((are k.0).0 k.1)) k.2.1), k.2.2.1, k.2.2.2)
              | inr k ↦ (k.2.0, k.2.2.0, back k.2.0 (asked_refers terms shapes x (length terms) constraints linked k.0 k.2.0 (inr k.1) k.2.1), k.2.2.1, k.2.2.2)
            ],
      )

  -- all of them, in the order in which an evaluation makes them
  module _ (n : ℕ) (values : List ℕ) (f : ℕ) (each : (v : Term) → HasNode terms values v ↔ IsValueNode (graph_of terms ids) c.path (term_at terms f) v)
      (active : IsTrue x.is_deactivated → ⊥) (asked : List ℕ) (are : (p : ℕ) → Contains asked p ↔ AsksSome x x.constraints p) (look : Look Term) where
    abbrev g : List Triple
    g = graph_of terms ids

    same : SameReading (reading s c.node) (shape_reading named c)
    same = same_on named c (reading s c.node) agreed active

    abbrev Made : Type 0
    Made =
        ((OptionalReads g c.path (term_at terms f) look
        ⊎ ReadsOfSome asked (PlaceReads terms ids shapes s n values) look)
        ⊎ ReadsOfSome c.constraints (ConstraintReads g (HasNode terms values) (term_at terms f)) look)
        ⊎ ReadsOfSome x.properties (PlaceReads terms ids shapes s n values) look

    to_node : (v : Term) → ValueNode g (reading s c.node) (term_at terms f) v → HasNode terms values v
    to_node v i = (each v).1 ((values_same named g c (reading s c.node) same (term_at terms f) v).0 i)

    from_node : (v : Term) → HasNode terms values v → ValueNode g (reading s c.node) (term_at terms f) v
    from_node v i = (values_same named g c (reading s c.node) same (term_at terms f) v).1 ((each v).0 i)

    made : ShapeReads (suc n) g (reading s) c.node (term_at terms f) look → Made
    made h = elim h.1 [
      | inl i ↦ inl (inl (inl (path_some g c.path i.0 (term_at terms f) look ((same.path i.0).0 i.1) i.2)))
      | inr (inl i) ↦ inl (inr (own_class named c g (HasNode terms values) (term_at terms f) look i.0 ((same.has ShClass i.0 tt).0 i.2) i.1 (to_node i.1 i.3) i.4))
      | inr (inr (inl i)) ↦ inl (inr (own_compared named c g (HasNode terms values) (term_at terms f) look i.0 (compared_same (reading s c.node) (shape_reading named c) same i.0 i.1) i.2))
      | inr (inr (inr (inl i))) ↦ inl (inr (own_closed named c g (HasNode terms values) (term_at terms f) look ((same.has ShClosed true_literal tt).0 i.0) i.1.0 (to_node i.1.0 i.1.1) i.1.2))
      | inr (inr (inr (inr i))) ↦ elim ((referred n values asked are look).0 (i.0, i.1, i.2, to_node i.1 i.3, i.4)) [ inl a ↦ inl (inl (inr a)) | inr a ↦ inr a ]
    ]

    by_referred : Referred n values look → ShapeReads (suc n) g (reading s) c.node (term_at terms f) look
    by_referred i = ((λ d. active ((same.has ShDeactivated true_literal refl).0 d).0), inr (inr (inr (inr (i.0, i.1, i.2, from_node i.1 i.3, i.4)))))

    by_own : ReadsOfSome c.constraints (ConstraintReads g (HasNode terms values) (term_at terms f)) look → ShapeReads (suc n) g (reading s) c.node (term_at terms f) look
    by_own h = (
      (λ d. active ((same.has ShDeactivated true_literal refl).0 d).0),
      elim (own_parts named c g (HasNode terms values) (term_at terms f) look h) [
        | inl i ↦ inr (inl (i.0, i.1, (same.has ShClass i.0 tt).1 i.2, from_node i.1 i.3, i.4))
        | inr (inl i) ↦ inr (inr (inl (i.0, compared_same (shape_reading named c) (reading s c.node) (reading_back (reading s c.node) (shape_reading named c) same) i.0 i.1, i.2)))
        | inr (inr i) ↦ inr (inr (inr (inl ((same.has ShClosed true_literal tt).1 i.0, (i.1.0, from_node i.1.0 i.1.1, i.1.2)))))
      ],
    )

    unmade : Made → ShapeReads (suc n) g (reading s) c.node (term_at terms f) look
    unmade = elim [
      | inl (inl (inl h)) ↦ (let p = some_path g c.path (term_at terms f) look h in
          ((λ d. active ((same.has ShDeactivated true_literal refl).0 d).0), inl (p.0, (same.path p.0).1 p.1, p.2)))
      | inl (inl (inr h)) ↦ by_referred ((referred n values asked are look).1 (inl h))
      | inl (inr h) ↦ by_own h
      | inr h ↦ by_referred ((referred n values asked are look).1 (inr h))
    ]

    pub reads_made : Made ↔ ShapeReads (suc n) g (reading s) c.node (term_at terms f) look
    reads_made = (unmade, made)

-- a deactivated shape has none
deactivated : (g s : List Triple) (read : List ReadShape) (d : ReadShape) → SameShape (reading s d.node) (shape_reading read d) → (n : ℕ) (f : Term) (look : Look Term) → IsTrue d.is_deactivated → ShapeReads n g (reading s) d.node f look → ⊥
deactivated g s read d e zero f look off h = h
deactivated g s read d e (suc n) f look off h = h.0 ((e.has ShDeactivated true_literal refl).1 (off, refl))

module _ (terms : List Term) (ids : List Ids) (shapes : List (Shape ℕ)) (place : ℕ) (x : Shape ℕ) (taken : slice_get shapes place ≡ Some x) (f : ℕ) where
  -- nothing without a level, and nothing where the shape is deactivated
  pub no_looks_at : (levels : ℕ) → (levels ≡ 0) ⊎ IsTrue x.is_deactivated → (old : List (Look ℕ)) → AddsAt terms ids shapes levels place f old old
  no_looks_at levels why old s d stand at = looks_none terms (ShapeReads levels (graph_of terms ids) (reading s) d.node (term_at terms f)) (λ look h. elim why [
    | inl e ↦ subst (λ (n : ℕ). ShapeReads n (graph_of terms ids) (reading s) d.node (term_at terms f) look) e h
    | inr off ↦ deactivated (graph_of terms ids) s (named_shapes terms shapes) d (stand.each d (of_place (named_shapes terms shapes) place d at)) levels (term_at terms f) look (subst (λ (m : ReadShape). IsTrue m.is_deactivated) (read_here terms shapes place x taken d at) off) h
  ]) old

  -- all of them, one part after another
  pub all_looks_at : AreBound terms shapes → (levels n : ℕ) → suc n ≡ levels → (values : List ℕ) → AreValueNodes terms ids x.path f values → (IsTrue x.is_deactivated → ⊥)
      → (asked : List ℕ) → ((p : ℕ) → Contains asked p ↔ AsksSome x x.constraints p) → (old walked told own new : List (Look ℕ))
      → AddsLooks terms (OptionalReads (graph_of terms ids) (read_optional_path (term_at terms) x.path) (term_at terms f)) old walked
      → AddsAtPlaces terms ids shapes n asked values walked told
      → AddsLooks terms (ReadsOfSome (read_shape (term_at terms) x).constraints (ConstraintReads (graph_of terms ids) (HasNode terms values) (term_at terms f))) told own
      → AddsAtPlaces terms ids shapes n x.properties values own new
      → AddsAt terms ids shapes levels place f old new
  all_looks_at bound levels n e values are active asked ask old walked told own new paths others constraints properties s d stand at =
      let g = graph_of terms ids in
      let read = read_shape (term_at terms) x in
      let Path : Look Term → Type 0 = OptionalReads g read.path (term_at terms f) in
      let Asked : Look Term → Type 0 = ReadsOfSome asked (PlaceReads terms ids shapes s n values) in
      let Own : Look Term → Type 0 = ReadsOfSome read.constraints (ConstraintReads g (HasNode terms values) (term_at terms f)) in
      let More : Look Term → Type 0 = ReadsOfSome x.properties (PlaceReads terms ids shapes s n values) in
      let both = looks_more terms Path Asked old walked told paths (others s stand) in
      let three = looks_more terms (λ l. Path l ⊎ Asked l) Own old told own both constraints in
      let all = looks_more terms (λ l. (Path l ⊎ Asked l) ⊎ Own l) More old own new three (properties s stand) in
      subst (λ (m : ℕ). AddsLooks terms (ShapeReads m g (reading s) d.node (term_at terms f)) old new) e
      (subst (λ (m : ReadShape). AddsLooks terms (ShapeReads (suc n) g (reading s) m.node (term_at terms f)) old new) (read_here terms shapes place x taken d at)
      (looks_same terms (λ l. ((Path l ⊎ Asked l) ⊎ Own l) ⊎ More l) (ShapeReads (suc n) g (reading s) read.node (term_at terms f))
      (reads_made terms ids shapes bound place x taken s stand n values f are.each active asked ask) old new all))
