-- The rows of a compiled shape, without those of the shapes that it refers to, are those that are listed.
use Rattle.std.proofs.Common.{◌≡◌, ◌∙◌, List, [], ◌∷◌, ◌++◌, Bool, true, false, refl, sym, ap, subst, inl, inr}
use Rattle.std.specs.Prelude.{◌⊎◌, ◌↔◌, Option, Some, None, if◌then◌else◌}
use Rattle.std.specs.List.{Contains, flat_map}
use Rattle.rdf_model.specs.declared.term.Term.{Term}
use Rattle.rdf_model.specs.Matching.{same_term}
use Rattle.rdf_model.proofs.SameTerms.{equal_same, same_equal}
use Rattle.shape_model.specs.Components.{parameter_of}
use Rattle.shape_model.specs.Instances.{class_path}
use Rattle.shape_model.specs.Looks.{ByOut, ByOutAny, LookRow, PathLook}
use Rattle.shape_model.specs.Paths.{Path}
use Rattle.shape_model.specs.Readings.{Reading}
use Rattle.shape_model.specs.Vocabulary.{ShClass, ShClosed, ShDisjoint, ShEquals, ShLessThan, ShLessThanOrEquals, ShapeProperty, true_literal}
use Rattle.shape_ast.specs.declared.component.TermComponent.TheVariants as by_term
use Rattle.shape_ast.specs.declared.component.ListComponent.TheVariants as by_list
use Rattle.shape_ast.specs.declared.component.ShapeComponent.TheVariants as by_shape
use Rattle.shape_ast.specs.declared.component.ShapesComponent.TheVariants as by_shapes
use Rattle.shape_ast.specs.declared.constraint.Constraint.{Constraint}
use Rattle.shape_ast.specs.declared.constraint.Constraint.TheVariants.{ByList, ByShape, ByShapes, ByTerm}
use Rattle.shape_ast.specs.Readings.{ReadShape, component_of, parameter}
use Rattle.shape_ast.specs.Standing.{IsFor, shape_reading}
use Rattle.read_plans.specs.PathRows.{path_rows}
use Rattle.read_plans.specs.ShapeRows.{closed_rows, constraint_rows, optional_rows, value_way}
use Rattle.read_plans.proofs.Lists.{flat_from, flat_to, listed_one, none_in}
use Rattle.read_plans.proofs.PathLooks.{path_listed}

-- the way to the value nodes is one
pub way_is : (o : Option Path) (q w : List Path) → ((o ≡ None) × (w ≡ q)) ⊎ ((p : Path) × (o ≡ Some p) × (w ≡ q ++ p ∷ [])) → w ≡ value_way o q
way_is None q w = elim [ inl i ↦ i.1 | inr i ↦ (let e = i.1 in cc) ]
way_is (Some p) q w = elim [
  | inl i ↦ (let e = i.0 in cc)
  | inr i ↦ (let e : p ≡ i.0 = (let k = i.1 in cc) in i.2 ∙ ap (λ (r : Path). q ++ r ∷ []) (sym e))
]

pub is_way : (o : Option Path) (q : List Path) → ((o ≡ None) × (value_way o q ≡ q)) ⊎ ((p : Path) × (o ≡ Some p) × (value_way o q ≡ q ++ p ∷ []))
is_way None q = inl (refl, refl)
is_way (Some p) q = inr (p, refl, refl)

pub optional_listed : (o : Option Path) (q : List Path) (row : LookRow) → Contains (optional_rows o q) row ↔ ((p : Path) × (o ≡ Some p) × PathLook false p q row)
optional_listed None q row = (λ c. absurd (none_in row c), λ i. let e = i.1 in cc)
optional_listed (Some p) q row = (
  λ c. (p, refl, (path_listed p false q row).0 c),
  λ i. let e : p ≡ i.0 = (let k = i.1 in cc) in (path_listed p false q row).1 (subst (λ (r : Path). PathLook false r q row) (sym e) i.2),
)

-- the rows of a constraint, by the property that is its parameter
abbrev property_rows : ShapeProperty → Term → List Path → List Path → List LookRow
property_rows ShClass p q w = path_rows false class_path w
property_rows ShEquals p q w = record { way = q; kind = ByOut p } ∷ []
property_rows ShDisjoint p q w = record { way = q; kind = ByOut p } ∷ []
property_rows ShLessThan p q w = record { way = q; kind = ByOut p } ∷ []
property_rows ShLessThanOrEquals p q w = record { way = q; kind = ByOut p } ∷ []
property_rows ShClosed p q w = closed_rows p w
property_rows _ p q w = []

by_property : (q w : List Path) (k : Constraint Term) → constraint_rows q w k ≡ property_rows (parameter_of (component_of k)) (parameter k) q w
by_property q w (ByTerm by_term.Class p) = refl
by_property q w (ByTerm by_term.Datatype p) = refl
by_property q w (ByTerm by_term.NodeKind p) = refl
by_property q w (ByTerm by_term.MinCount p) = refl
by_property q w (ByTerm by_term.MaxCount p) = refl
by_property q w (ByTerm by_term.MinExclusive p) = refl
by_property q w (ByTerm by_term.MinInclusive p) = refl
by_property q w (ByTerm by_term.MaxExclusive p) = refl
by_property q w (ByTerm by_term.MaxInclusive p) = refl
by_property q w (ByTerm by_term.MinLength p) = refl
by_property q w (ByTerm by_term.MaxLength p) = refl
by_property q w (ByTerm by_term.UniqueLang p) = refl
by_property q w (ByTerm by_term.Equals p) = refl
by_property q w (ByTerm by_term.Disjoint p) = refl
by_property q w (ByTerm by_term.LessThan p) = refl
by_property q w (ByTerm by_term.LessThanOrEquals p) = refl
by_property q w (ByTerm by_term.QualifiedMinCount p) = refl
by_property q w (ByTerm by_term.QualifiedMaxCount p) = refl
by_property q w (ByTerm by_term.Closed p) = refl
by_property q w (ByTerm by_term.HasValue p) = refl
by_property q w (ByList by_list.LanguageIn p members) = refl
by_property q w (ByList by_list.In p members) = refl
by_property q w (ByShape by_shape.Not p shape) = refl
by_property q w (ByShape by_shape.Node p shape) = refl
by_property q w (ByShapes by_shapes.And p shapes) = refl
by_property q w (ByShapes by_shapes.Or p shapes) = refl
by_property q w (ByShapes by_shapes.Xone p shapes) = refl

closed_to : (b : Bool) (w : List Path) (row : LookRow) → Contains (if b then record { way = w; kind = ByOutAny } ∷ [] else []) row → (b ≡ true) × (row ≡ record { way = w; kind = ByOutAny })
closed_to true w row c = (refl, (listed_one (record { way = w; kind = ByOutAny }) row).0 c)
closed_to false w row c = absurd (none_in row c)

to_closed : (b : Bool) (w : List Path) (row : LookRow) → b ≡ true → row ≡ record { way = w; kind = ByOutAny } → Contains (if b then record { way = w; kind = ByOutAny } ∷ [] else []) row
to_closed true w row e is = (listed_one (record { way = w; kind = ByOutAny }) row).1 is
to_closed false w row e is = cc

module _ (shapes : List ReadShape) (c : ReadShape) (q : List Path) (row : LookRow) where
  abbrev Said : Reading
  Said = shape_reading shapes c

  abbrev w : List Path
  w = value_way c.path q

  abbrev Told : ShapeProperty → Term → Type 0
  Told property v = (k : Constraint Term) × Contains c.constraints k × IsFor property v k

  -- the rows of constraints, as they are told apart
  abbrev pub IsOwn : Type 0
  IsOwn =
      ((v : Term) × Told ShClass v × PathLook false class_path w row)
      ⊎ ((v : Term) × (Told ShEquals v ⊎ Told ShDisjoint v ⊎ Told ShLessThan v ⊎ Told ShLessThanOrEquals v) × (row ≡ record { way = q; kind = ByOut v }))
      ⊎ (Told ShClosed true_literal × (row ≡ record { way = w; kind = ByOutAny }))

  one : (v : Term) → Contains (record { way = q; kind = ByOut v } ∷ []) row → row ≡ record { way = q; kind = ByOut v }
  one v i = (listed_one (record { way = q; kind = ByOut v }) row).0 i

  own_from : (property : ShapeProperty) (v : Term) → Told property v → Contains (property_rows property v q w) row → IsOwn
  own_from ShClass v h i = inl (v, h, (path_listed class_path false w row).0 i)
  own_from ShEquals v h i = inr (inl (v, inl h, one v i))
  own_from ShDisjoint v h i = inr (inl (v, inr (inl h), one v i))
  own_from ShLessThan v h i = inr (inl (v, inr (inr (inl h)), one v i))
  own_from ShLessThanOrEquals v h i = inr (inl (v, inr (inr (inr h)), one v i))
  own_from ShClosed v h i =
      let k = closed_to (same_term v true_literal) w row i in
      inr (inr (subst (λ (x : Term). Told ShClosed x) (same_equal v true_literal k.0) h, k.1))
  own_from _ v h i = absurd (none_in row i)

  own_to : (j : ShapeProperty) (v : Term) → Told j v → Contains (property_rows j v q w) row → Contains (flat_map (constraint_rows q w) c.constraints) row
  own_to j v h at =
      flat_to (constraint_rows q w) c.constraints h.0 row h.1
      (subst (λ (rows : List LookRow). Contains rows row) (sym (by_property q w h.0 ∙ (λ i. property_rows (h.2.0 i) (h.2.1 i) q w))) at)

  pub constraints_from : Contains (flat_map (constraint_rows q w) c.constraints) row → IsOwn
  constraints_from i =
      let k = flat_from (constraint_rows q w) c.constraints row i in
      own_from (parameter_of (component_of k.0)) (parameter k.0) (k.0, k.1, (refl, refl)) (subst (λ (rows : List LookRow). Contains rows row) (by_property q w k.0) k.2)

  pub constraints_to : IsOwn → Contains (flat_map (constraint_rows q w) c.constraints) row
  constraints_to = elim [
    | inl i ↦ own_to ShClass i.0 i.1 ((path_listed class_path false w row).1 i.2)
    | inr (inl i) ↦ (let at = (listed_one (record { way = q; kind = ByOut i.0 }) row).1 i.2 in
        elim i.1 [
          | inl h ↦ own_to ShEquals i.0 h at
          | inr (inl h) ↦ own_to ShDisjoint i.0 h at
          | inr (inr (inl h)) ↦ own_to ShLessThan i.0 h at
          | inr (inr (inr h)) ↦ own_to ShLessThanOrEquals i.0 h at
        ])
    | inr (inr i) ↦ own_to ShClosed true_literal i.0 (to_closed (same_term true_literal true_literal) w row (equal_same true_literal true_literal refl) i.1)
  ]
