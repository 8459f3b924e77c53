-- The results of a compiled shape are those of its constraints, of its pattern and of its property shapes.
use Rattle.std.proofs.Common.{◌≡◌, ◌∙◌, Bool, true, false, List, refl, sym, ap, subst, inl, inr}
use Rattle.std.specs.Prelude.{◌↔◌}
use Rattle.std.specs.List.{Contains}
use Rattle.rdf_model.specs.declared.term.Term.{Term}
use Rattle.shape_model.specs.declared.component.Component.{Component}
use Rattle.shape_model.specs.declared.component.Component.TheVariants as components
use Rattle.shape_model.specs.declared.result_row.ResultRow.{ResultRow}
use Rattle.shape_model.specs.Components.{AtIn, ComponentRow, RowsOf, Surroundings, parameter_of, row_of}
use Rattle.shape_model.specs.Readings.{Reading}
use Rattle.shape_model.specs.Vocabulary.{ShapeProperty, ShClass, ShDatatype, ShNodeKind, ShMinCount, ShMaxCount, ShMinExclusive, ShMinInclusive, ShMaxExclusive, ShMaxInclusive, ShMinLength, ShMaxLength, ShPattern, ShLanguageIn, ShUniqueLang, ShEquals, ShDisjoint, ShLessThan, ShLessThanOrEquals, ShNot, ShAnd, ShOr, ShXone, ShNode, ShQualifiedMinCount, ShQualifiedMaxCount, ShClosed, ShHasValue}
use Rattle.component_rows.specs.Listed.{untold, with_list}
use Rattle.shape_ast.specs.declared.component.TermComponent.TheVariants as by_term
use Rattle.shape_ast.specs.declared.component.ListComponent.{ListComponent}
use Rattle.shape_ast.specs.declared.component.ListComponent.TheVariants as by_list
use Rattle.shape_ast.specs.declared.component.ShapeComponent.{ShapeComponent}
use Rattle.shape_ast.specs.declared.component.ShapeComponent.TheVariants as by_shape
use Rattle.shape_ast.specs.declared.component.ShapesComponent.{ShapesComponent}
use Rattle.shape_ast.specs.declared.component.ShapesComponent.TheVariants as by_shapes
use Rattle.shape_ast.specs.declared.constraint.Constraint.{Constraint}
use Rattle.shape_ast.specs.declared.constraint.Constraint.TheVariants.{ByTerm, ByList, ByShape, ByShapes}
use Rattle.shape_ast.specs.Components.{term_component, list_component, shape_component, shapes_component}
use Rattle.shape_ast.specs.Readings.{ReadShape, component_of, parameter}
use Rattle.shape_ast.specs.Standing.{AreAt, HasMembers, ShapeHas, shape_reading}
use Rattle.shape_eval.specs.ShapeRows.{ConstraintRow, OwnRow, ShapeRow}

-- the component of a parameter
abbrev component_for : ShapeProperty → Component
component_for ShClass = components.Class
component_for ShDatatype = components.Datatype
component_for ShNodeKind = components.NodeKind
component_for ShMinCount = components.MinCount
component_for ShMaxCount = components.MaxCount
component_for ShMinExclusive = components.MinExclusive
component_for ShMinInclusive = components.MinInclusive
component_for ShMaxExclusive = components.MaxExclusive
component_for ShMaxInclusive = components.MaxInclusive
component_for ShMinLength = components.MinLength
component_for ShMaxLength = components.MaxLength
component_for ShPattern = components.Pattern
component_for ShLanguageIn = components.LanguageIn
component_for ShUniqueLang = components.UniqueLang
component_for ShEquals = components.Equals
component_for ShDisjoint = components.Disjoint
component_for ShLessThan = components.LessThan
component_for ShLessThanOrEquals = components.LessThanOrEquals
component_for ShNot = components.Not
component_for ShAnd = components.And
component_for ShOr = components.Or
component_for ShXone = components.Xone
component_for ShNode = components.Node
component_for ShQualifiedMinCount = components.QualifiedMinCount
component_for ShQualifiedMaxCount = components.QualifiedMaxCount
component_for ShClosed = components.Closed
component_for ShHasValue = components.HasValue
component_for p = components.In

known : (k : Component) → component_for (parameter_of k) ≡ k
known components.Class = refl
known components.Datatype = refl
known components.NodeKind = refl
known components.MinCount = refl
known components.MaxCount = refl
known components.MinExclusive = refl
known components.MinInclusive = refl
known components.MaxExclusive = refl
known components.MaxInclusive = refl
known components.MinLength = refl
known components.MaxLength = refl
known components.Pattern = refl
known components.LanguageIn = refl
known components.UniqueLang = refl
known components.Equals = refl
known components.Disjoint = refl
known components.LessThan = refl
known components.LessThanOrEquals = refl
known components.Not = refl
known components.And = refl
known components.Or = refl
known components.Xone = refl
known components.Node = refl
known components.QualifiedMinCount = refl
known components.QualifiedMaxCount = refl
known components.Closed = refl
known components.HasValue = refl
known components.In = refl

pub same_component : (j k : Component) → parameter_of j ≡ parameter_of k → j ≡ k
same_component j k e = sym (known j) ∙ ap component_for e ∙ known k

-- the components whose parameter is a list
abbrev takes_list : Component → Bool
takes_list components.LanguageIn = true
takes_list components.In = true
takes_list components.And = true
takes_list components.Or = true
takes_list components.Xone = true
takes_list k = false

list_takes : (k : ListComponent) → takes_list (list_component k) ≡ true
list_takes by_list.LanguageIn = refl
list_takes by_list.In = refl

shapes_take : (k : ShapesComponent) → takes_list (shapes_component k) ≡ true
shapes_take by_shapes.And = refl
shapes_take by_shapes.Or = refl
shapes_take by_shapes.Xone = refl

clash : (j k : Component) → takes_list j ≡ true → takes_list k ≡ false → j ≡ k → ⊥
clash j k a b e = let c = ap takes_list e in cc (a, b, c)

module _ (shapes : List ReadShape) (t : Surroundings) (c : ReadShape) (f : Term) (r : ResultRow) where
  abbrev Said : Reading
  Said = shape_reading shapes c

  abbrev Given : Constraint Term → Type 0
  Given k = ConstraintRow t shapes c f k r

  -- a component of one shape asks nothing of the reading
  untell : (k : ShapeComponent) (q : Term) → RowsOf (shape_component k) t Said q (row_of (shape_component k) c.node f q) r ↔ RowsOf (shape_component k) t untold q (row_of (shape_component k) c.node f q) r
  untell by_shape.Not q = (λ h. h, λ h. h)
  untell by_shape.Node q = (λ h. h, λ h. h)

  -- from a component to the constraint that has it
  by_value : (j : Constraint Term) (k : Component) (q : Term) → takes_list k ≡ false → component_of j ≡ k → parameter j ≡ q → RowsOf k t Said q (row_of k c.node f q) r → Given j
  by_value (ByTerm component p) k q none e is h =
      let from = sym e in let value = sym is in
      subst (λ (x : Component × Term). RowsOf x.0 t Said x.1 (row_of x.0 c.node f x.1) r) (λ i. (from i, value i)) h
  by_value (ByList component p members) k q none e is h = absurd (clash (list_component component) k (list_takes component) none e)
  by_value (ByShape component p shape) k q none e is h =
      let from = sym e in let value = sym is in
      (untell component p).0 (subst (λ (x : Component × Term). RowsOf x.0 t Said x.1 (row_of x.0 c.node f x.1) r) (λ i. (from i, value i)) h)
  by_value (ByShapes component p places) k q none e is h = absurd (clash (shapes_component component) k (shapes_take component) none e)

  by_members : (j : Constraint Term) (k : Component) (q : Term) (ms : List Term) → component_of j ≡ k → parameter j ≡ q → HasMembers shapes j ms → RowsOf k t (with_list ms) q (row_of k c.node f q) r → Given j
  by_members (ByTerm component p) k q ms e is has h = absurd has
  by_members (ByList component p members) k q ms e is has h =
      let from = sym e in let value = sym is in let kept = sym has in
      subst (λ (x : Component × Term × List Term). RowsOf x.0 t (with_list x.2) x.1 (row_of x.0 c.node f x.1) r) (λ i. (from i, value i, kept i)) h
  by_members (ByShape component p shape) k q ms e is has h = absurd has
  by_members (ByShapes component p places) k q ms e is has h =
      let from = sym e in let value = sym is in
      (ms, has, subst (λ (x : Component × Term). RowsOf x.0 t (with_list ms) x.1 (row_of x.0 c.node f x.1) r) (λ i. (from i, value i)) h)

  abbrev Row : Component → Type 0
  Row k = ComponentRow k t Said c.node f r

  of_value : (k : Component) → takes_list k ≡ false → (q : Term) → ((j : Constraint Term) × Contains c.constraints j × (parameter_of (component_of j) ≡ parameter_of k) × (parameter j ≡ q))
      → RowsOf k t Said q (row_of k c.node f q) r → OwnRow t shapes c f r
  of_value k none q j h = inl (j.0, j.1, by_value j.0 k q none (same_component (component_of j.0) k j.2) j.3 h)

  of_members : (k : Component) (q : Term) (ms : List Term) → ((j : Constraint Term) × Contains c.constraints j × ((parameter_of (component_of j) ≡ parameter_of k) × (parameter j ≡ q)) × HasMembers shapes j ms)
      → RowsOf k t (with_list ms) q (row_of k c.node f q) r → OwnRow t shapes c f r
  of_members k q ms j h = inl (j.0, j.1, by_members j.0 k q ms (same_component (component_of j.0) k j.2.0) j.2.1 j.3 h)

  own_to : (k : Component) → Row k → OwnRow t shapes c f r
  own_to components.Class h = of_value components.Class refl h.0 (h.1.0, h.1.1, h.1.2.0, h.1.2.1) h.2
  own_to components.Datatype h = of_value components.Datatype refl h.0 (h.1.0, h.1.1, h.1.2.0, h.1.2.1) h.2
  own_to components.NodeKind h = of_value components.NodeKind refl h.0 (h.1.0, h.1.1, h.1.2.0, h.1.2.1) h.2
  own_to components.MinCount h = of_value components.MinCount refl h.0 (h.1.0, h.1.1, h.1.2.0, h.1.2.1) h.2
  own_to components.MaxCount h = of_value components.MaxCount refl h.0 (h.1.0, h.1.1, h.1.2.0, h.1.2.1) h.2
  own_to components.MinExclusive h = of_value components.MinExclusive refl h.0 (h.1.0, h.1.1, h.1.2.0, h.1.2.1) h.2
  own_to components.MinInclusive h = of_value components.MinInclusive refl h.0 (h.1.0, h.1.1, h.1.2.0, h.1.2.1) h.2
  own_to components.MaxExclusive h = of_value components.MaxExclusive refl h.0 (h.1.0, h.1.1, h.1.2.0, h.1.2.1) h.2
  own_to components.MaxInclusive h = of_value components.MaxInclusive refl h.0 (h.1.0, h.1.1, h.1.2.0, h.1.2.1) h.2
  own_to components.MinLength h = of_value components.MinLength refl h.0 (h.1.0, h.1.1, h.1.2.0, h.1.2.1) h.2
  own_to components.MaxLength h = of_value components.MaxLength refl h.0 (h.1.0, h.1.1, h.1.2.0, h.1.2.1) h.2
  own_to components.Pattern h = inr (h.0, h.1, h.2)
  own_to components.LanguageIn h = of_members components.LanguageIn h.0 h.2.0 h.2.1 (h.2.0, refl, h.2.2)
  own_to components.UniqueLang h = of_value components.UniqueLang refl h.0 (h.1.0, h.1.1, h.1.2.0, h.1.2.1) h.2
  own_to components.Equals h = of_value components.Equals refl h.0 (h.1.0, h.1.1, h.1.2.0, h.1.2.1) h.2
  own_to components.Disjoint h = of_value components.Disjoint refl h.0 (h.1.0, h.1.1, h.1.2.0, h.1.2.1) h.2
  own_to components.LessThan h = of_value components.LessThan refl h.0 (h.1.0, h.1.1, h.1.2.0, h.1.2.1) h.2
  own_to components.LessThanOrEquals h = of_value components.LessThanOrEquals refl h.0 (h.1.0, h.1.1, h.1.2.0, h.1.2.1) h.2
  own_to components.Not h = of_value components.Not refl h.0 (h.1.0, h.1.1, h.1.2.0, h.1.2.1) h.2
  own_to components.And h = of_members components.And h.0 h.2.0 h.2.1 (h.2.0, refl, h.2.2)
  own_to components.Or h = of_members components.Or h.0 h.2.0 h.2.1 (h.2.0, refl, h.2.2)
  own_to components.Xone h = of_members components.Xone h.0 h.2.0 h.2.1 (h.2.0, refl, h.2.2)
  own_to components.Node h = of_value components.Node refl h.0 (h.1.0, h.1.1, h.1.2.0, h.1.2.1) h.2
  own_to components.QualifiedMinCount h = of_value components.QualifiedMinCount refl h.0 (h.1.0, h.1.1, h.1.2.0, h.1.2.1) h.2
  own_to components.QualifiedMaxCount h = of_value components.QualifiedMaxCount refl h.0 (h.1.0, h.1.1, h.1.2.0, h.1.2.1) h.2
  own_to components.Closed h = of_value components.Closed refl h.0 (h.1.0, h.1.1, h.1.2.0, h.1.2.1) h.2
  own_to components.HasValue h = of_value components.HasValue refl h.0 (h.1.0, h.1.1, h.1.2.0, h.1.2.1) h.2
  own_to components.In h = of_members components.In h.0 h.2.0 h.2.1 (h.2.0, refl, h.2.2)

  -- the shape has the parameter of a constraint
  has_value : (k : Constraint Term) → Contains c.constraints k → ShapeHas shapes c (parameter_of (component_of k)) (parameter k)
  has_value (ByTerm by_term.Class q) i = (ByTerm by_term.Class q, i, (refl, refl))
  has_value (ByTerm by_term.Datatype q) i = (ByTerm by_term.Datatype q, i, (refl, refl))
  has_value (ByTerm by_term.NodeKind q) i = (ByTerm by_term.NodeKind q, i, (refl, refl))
  has_value (ByTerm by_term.MinCount q) i = (ByTerm by_term.MinCount q, i, (refl, refl))
  has_value (ByTerm by_term.MaxCount q) i = (ByTerm by_term.MaxCount q, i, (refl, refl))
  has_value (ByTerm by_term.MinExclusive q) i = (ByTerm by_term.MinExclusive q, i, (refl, refl))
  has_value (ByTerm by_term.MinInclusive q) i = (ByTerm by_term.MinInclusive q, i, (refl, refl))
  has_value (ByTerm by_term.MaxExclusive q) i = (ByTerm by_term.MaxExclusive q, i, (refl, refl))
  has_value (ByTerm by_term.MaxInclusive q) i = (ByTerm by_term.MaxInclusive q, i, (refl, refl))
  has_value (ByTerm by_term.MinLength q) i = (ByTerm by_term.MinLength q, i, (refl, refl))
  has_value (ByTerm by_term.MaxLength q) i = (ByTerm by_term.MaxLength q, i, (refl, refl))
  has_value (ByTerm by_term.UniqueLang q) i = (ByTerm by_term.UniqueLang q, i, (refl, refl))
  has_value (ByTerm by_term.Equals q) i = (ByTerm by_term.Equals q, i, (refl, refl))
  has_value (ByTerm by_term.Disjoint q) i = (ByTerm by_term.Disjoint q, i, (refl, refl))
  has_value (ByTerm by_term.LessThan q) i = (ByTerm by_term.LessThan q, i, (refl, refl))
  has_value (ByTerm by_term.LessThanOrEquals q) i = (ByTerm by_term.LessThanOrEquals q, i, (refl, refl))
  has_value (ByTerm by_term.QualifiedMinCount q) i = (ByTerm by_term.QualifiedMinCount q, i, (refl, refl))
  has_value (ByTerm by_term.QualifiedMaxCount q) i = (ByTerm by_term.QualifiedMaxCount q, i, (refl, refl))
  has_value (ByTerm by_term.Closed q) i = (ByTerm by_term.Closed q, i, (refl, refl))
  has_value (ByTerm by_term.HasValue q) i = (ByTerm by_term.HasValue q, i, (refl, refl))
  has_value (ByList by_list.LanguageIn q ms) i = (ByList by_list.LanguageIn q ms, i, (refl, refl))
  has_value (ByList by_list.In q ms) i = (ByList by_list.In q ms, i, (refl, refl))
  has_value (ByShape by_shape.Not q m) i = (ByShape by_shape.Not q m, i, (refl, refl))
  has_value (ByShape by_shape.Node q m) i = (ByShape by_shape.Node q m, i, (refl, refl))
  has_value (ByShapes by_shapes.And q ms) i = (ByShapes by_shapes.And q ms, i, (refl, refl))
  has_value (ByShapes by_shapes.Or q ms) i = (ByShapes by_shapes.Or q ms, i, (refl, refl))
  has_value (ByShapes by_shapes.Xone q ms) i = (ByShapes by_shapes.Xone q ms, i, (refl, refl))

  own_from : (k : Constraint Term) → Contains c.constraints k → Given k → (j : Component) × Row j
  own_from (ByTerm component q) i h = (term_component component, (q, has_value (ByTerm component q) i, h))
  own_from (ByList by_list.LanguageIn q ms) i h = (components.LanguageIn, (q, has_value (ByList by_list.LanguageIn q ms) i, (h.0, (ByList by_list.LanguageIn q ms, i, (refl, refl), sym h.1), h.2)))
  own_from (ByList by_list.In q ms) i h = (components.In, (q, has_value (ByList by_list.In q ms) i, (h.0, (ByList by_list.In q ms, i, (refl, refl), sym h.1), h.2)))
  own_from (ByShape component q m) i h = (shape_component component, (q, has_value (ByShape component q m) i, (untell component q).1 h))
  own_from (ByShapes by_shapes.And q ns) i h = (components.And, (q, has_value (ByShapes by_shapes.And q ns) i, (h.2.0, (ByShapes by_shapes.And q ns, i, (refl, refl), subst (λ (ms : List Term). AreAt shapes ns ms) (sym h.2.1) h.1), h.2.2)))
  own_from (ByShapes by_shapes.Or q ns) i h = (components.Or, (q, has_value (ByShapes by_shapes.Or q ns) i, (h.2.0, (ByShapes by_shapes.Or q ns, i, (refl, refl), subst (λ (ms : List Term). AreAt shapes ns ms) (sym h.2.1) h.1), h.2.2)))
  own_from (ByShapes by_shapes.Xone q ns) i h = (components.Xone, (q, has_value (ByShapes by_shapes.Xone q ns) i, (h.2.0, (ByShapes by_shapes.Xone q ns, i, (refl, refl), subst (λ (ms : List Term). AreAt shapes ns ms) (sym h.2.1) h.1), h.2.2)))

  pub opened : AtIn t Said c.node f r ↔ ShapeRow t shapes c f r
  opened = (
    λ h. (
      (λ d. h.0 (d, refl)),
      elim h.1 [
        | inl i ↦ inl (own_to i.0 i.1)
        | inr i ↦ inr (i.1.0, i.1.1, (i.1.2.0, i.1.2.1, (i.2.0, i.2.1, subst (λ (m : Term). t.row m i.2.0 r) (sym i.1.2.2) i.2.2)))
      ],
    ),
    λ h. (
      (λ d. h.0 d.0),
      elim h.1 [
        | inl (inl i) ↦ inl (own_from i.0 i.1 i.2)
        | inl (inr i) ↦ inl (components.Pattern, (i.0, i.1, i.2))
        | inr i ↦ inr (i.2.0.node, (i.0, i.1, (i.2.0, i.2.1, refl)), i.2.2)
      ],
    ),
  )
