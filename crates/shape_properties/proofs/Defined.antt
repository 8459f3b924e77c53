-- The properties by which rules speak of shapes are those of the definitions, and so are the shapes.
use Rattle.std.proofs.Common.{◌≡◌, List, IsTrue, refl, sym, subst, inl, inr}
use Rattle.std.specs.Prelude.{◌⊎◌, ◌↔◌}
use Rattle.rdf_model.specs.declared.term.Term.{Term}
use Rattle.rdf_model.specs.declared.triple.Triple.{Triple}
use Rattle.shape_model.specs.Vocabulary.{ShapeProperty, property_iri, ShClass, ShDatatype, ShNodeKind, ShMinCount, ShMaxCount, ShMinExclusive, ShMinInclusive, ShMaxExclusive, ShMaxInclusive, ShMinLength, ShMaxLength, ShPattern, ShFlags, ShLanguageIn, ShUniqueLang, ShEquals, ShDisjoint, ShLessThan, ShLessThanOrEquals, ShNot, ShAnd, ShOr, ShXone, ShNode, ShProperty, ShQualifiedValueShape, ShQualifiedMinCount, ShQualifiedMaxCount, ShQualifiedValueShapesDisjoint, ShClosed, ShIgnoredProperties, ShHasValue, ShIn, ShDeactivated, ShPath, ShTargetNode, ShTargetClass, ShTargetSubjectsOf, ShTargetObjectsOf}
use Rattle.shape_model.specs.ShapeSyntax.{HasProperty, IsShape, ListOf, MakesShape, TakesShape, TakesShapes}
use Rattle.shape_model.specs.Triples.{Has, IsMember}
use Rattle.shape_properties.specs.declared.property.ShapeProperty.{ShapeProperty as RuleProperty}
use Rattle.shape_properties.specs.declared.property.ShapeProperty.TheVariants as properties
use Rattle.shape_properties.specs.Properties.{property_iri as rule_iri}
use Rattle.shape_properties.specs.Table.{role}
use Rattle.shape_properties.specs.Syntax.{IsTaken, Takes, makes_shape, HasProperty as HasRuleProperty, IsShape as IsRuleShape}

-- the same property among those of the rules
abbrev pub rule_property : ShapeProperty → RuleProperty
rule_property ShClass = properties.Class
rule_property ShDatatype = properties.Datatype
rule_property ShNodeKind = properties.NodeKind
rule_property ShMinCount = properties.MinCount
rule_property ShMaxCount = properties.MaxCount
rule_property ShMinExclusive = properties.MinExclusive
rule_property ShMinInclusive = properties.MinInclusive
rule_property ShMaxExclusive = properties.MaxExclusive
rule_property ShMaxInclusive = properties.MaxInclusive
rule_property ShMinLength = properties.MinLength
rule_property ShMaxLength = properties.MaxLength
rule_property ShPattern = properties.Pattern
rule_property ShFlags = properties.Flags
rule_property ShLanguageIn = properties.LanguageIn
rule_property ShUniqueLang = properties.UniqueLang
rule_property ShEquals = properties.Equals
rule_property ShDisjoint = properties.Disjoint
rule_property ShLessThan = properties.LessThan
rule_property ShLessThanOrEquals = properties.LessThanOrEquals
rule_property ShNot = properties.Not
rule_property ShAnd = properties.And
rule_property ShOr = properties.Or
rule_property ShXone = properties.Xone
rule_property ShNode = properties.Node
rule_property ShProperty = properties.Property
rule_property ShQualifiedValueShape = properties.QualifiedValueShape
rule_property ShQualifiedMinCount = properties.QualifiedMinCount
rule_property ShQualifiedMaxCount = properties.QualifiedMaxCount
rule_property ShQualifiedValueShapesDisjoint = properties.QualifiedValueShapesDisjoint
rule_property ShClosed = properties.Closed
rule_property ShIgnoredProperties = properties.IgnoredProperties
rule_property ShHasValue = properties.HasValue
rule_property ShIn = properties.In
rule_property ShDeactivated = properties.Deactivated
rule_property ShPath = properties.Path
rule_property ShTargetNode = properties.TargetNode
rule_property ShTargetClass = properties.TargetClass
rule_property ShTargetSubjectsOf = properties.TargetSubjectsOf
rule_property ShTargetObjectsOf = properties.TargetObjectsOf

pub same_iri : (p : ShapeProperty) → rule_iri (rule_property p) ≡ property_iri p
same_iri ShClass = refl
same_iri ShDatatype = refl
same_iri ShNodeKind = refl
same_iri ShMinCount = refl
same_iri ShMaxCount = refl
same_iri ShMinExclusive = refl
same_iri ShMinInclusive = refl
same_iri ShMaxExclusive = refl
same_iri ShMaxInclusive = refl
same_iri ShMinLength = refl
same_iri ShMaxLength = refl
same_iri ShPattern = refl
same_iri ShFlags = refl
same_iri ShLanguageIn = refl
same_iri ShUniqueLang = refl
same_iri ShEquals = refl
same_iri ShDisjoint = refl
same_iri ShLessThan = refl
same_iri ShLessThanOrEquals = refl
same_iri ShNot = refl
same_iri ShAnd = refl
same_iri ShOr = refl
same_iri ShXone = refl
same_iri ShNode = refl
same_iri ShProperty = refl
same_iri ShQualifiedValueShape = refl
same_iri ShQualifiedMinCount = refl
same_iri ShQualifiedMaxCount = refl
same_iri ShQualifiedValueShapesDisjoint = refl
same_iri ShClosed = refl
same_iri ShIgnoredProperties = refl
same_iri ShHasValue = refl
same_iri ShIn = refl
same_iri ShDeactivated = refl
same_iri ShPath = refl
same_iri ShTargetNode = refl
same_iri ShTargetClass = refl
same_iri ShTargetSubjectsOf = refl
same_iri ShTargetObjectsOf = refl

pub has_same : (s : List Triple) (n : Term) (p : ShapeProperty) (v : Term) → HasRuleProperty s n (rule_property p) v ↔ HasProperty s n p v
has_same s n p v = (
  λ h. subst (λ (iri : Term). Has s n iri v) (same_iri p) h,
  λ h. subst (λ (iri : Term). Has s n iri v) (sym (same_iri p)) h,
)

-- those that make their subject a shape
makes_from : (s : List Triple) (n : Term) (p : RuleProperty) (v : Term) → HasRuleProperty s n p v → IsTrue (makes_shape (role p)) → (q : ShapeProperty) × (w : Term) × MakesShape q × HasProperty s n q w
makes_from s n properties.Class v h e = (ShClass, v, refl, h)
makes_from s n properties.Datatype v h e = (ShDatatype, v, refl, h)
makes_from s n properties.NodeKind v h e = (ShNodeKind, v, refl, h)
makes_from s n properties.MinCount v h e = (ShMinCount, v, refl, h)
makes_from s n properties.MaxCount v h e = (ShMaxCount, v, refl, h)
makes_from s n properties.MinExclusive v h e = (ShMinExclusive, v, refl, h)
makes_from s n properties.MinInclusive v h e = (ShMinInclusive, v, refl, h)
makes_from s n properties.MaxExclusive v h e = (ShMaxExclusive, v, refl, h)
makes_from s n properties.MaxInclusive v h e = (ShMaxInclusive, v, refl, h)
makes_from s n properties.MinLength v h e = (ShMinLength, v, refl, h)
makes_from s n properties.MaxLength v h e = (ShMaxLength, v, refl, h)
makes_from s n properties.Pattern v h e = (ShPattern, v, refl, h)
makes_from s n properties.Flags v h e = (ShFlags, v, refl, h)
makes_from s n properties.LanguageIn v h e = (ShLanguageIn, v, refl, h)
makes_from s n properties.UniqueLang v h e = (ShUniqueLang, v, refl, h)
makes_from s n properties.Equals v h e = (ShEquals, v, refl, h)
makes_from s n properties.Disjoint v h e = (ShDisjoint, v, refl, h)
makes_from s n properties.LessThan v h e = (ShLessThan, v, refl, h)
makes_from s n properties.LessThanOrEquals v h e = (ShLessThanOrEquals, v, refl, h)
makes_from s n properties.Not v h e = (ShNot, v, refl, h)
makes_from s n properties.And v h e = (ShAnd, v, refl, h)
makes_from s n properties.Or v h e = (ShOr, v, refl, h)
makes_from s n properties.Xone v h e = (ShXone, v, refl, h)
makes_from s n properties.Node v h e = (ShNode, v, refl, h)
makes_from s n properties.Property v h e = (ShProperty, v, refl, h)
makes_from s n properties.QualifiedValueShape v h e = (ShQualifiedValueShape, v, refl, h)
makes_from s n properties.QualifiedMinCount v h e = (ShQualifiedMinCount, v, refl, h)
makes_from s n properties.QualifiedMaxCount v h e = (ShQualifiedMaxCount, v, refl, h)
makes_from s n properties.QualifiedValueShapesDisjoint v h e = (ShQualifiedValueShapesDisjoint, v, refl, h)
makes_from s n properties.Closed v h e = (ShClosed, v, refl, h)
makes_from s n properties.IgnoredProperties v h e = (ShIgnoredProperties, v, refl, h)
makes_from s n properties.HasValue v h e = (ShHasValue, v, refl, h)
makes_from s n properties.In v h e = (ShIn, v, refl, h)
makes_from s n properties.TargetNode v h e = (ShTargetNode, v, refl, h)
makes_from s n properties.TargetClass v h e = (ShTargetClass, v, refl, h)
makes_from s n properties.TargetSubjectsOf v h e = (ShTargetSubjectsOf, v, refl, h)
makes_from s n properties.TargetObjectsOf v h e = (ShTargetObjectsOf, v, refl, h)
makes_from s n properties.Path v h e = cc
makes_from s n properties.Severity v h e = cc
makes_from s n properties.Message v h e = cc
makes_from s n properties.Deactivated v h e = cc
makes_from s n properties.Sparql v h e = cc
makes_from s n properties.Js v h e = cc
makes_from s n properties.Target v h e = cc
makes_from s n properties.Entailment v h e = cc

makes_to : (p : ShapeProperty) → MakesShape p → IsTrue (makes_shape (role (rule_property p)))
makes_to ShClass e = refl
makes_to ShDatatype e = refl
makes_to ShNodeKind e = refl
makes_to ShMinCount e = refl
makes_to ShMaxCount e = refl
makes_to ShMinExclusive e = refl
makes_to ShMinInclusive e = refl
makes_to ShMaxExclusive e = refl
makes_to ShMaxInclusive e = refl
makes_to ShMinLength e = refl
makes_to ShMaxLength e = refl
makes_to ShPattern e = refl
makes_to ShFlags e = refl
makes_to ShLanguageIn e = refl
makes_to ShUniqueLang e = refl
makes_to ShEquals e = refl
makes_to ShDisjoint e = refl
makes_to ShLessThan e = refl
makes_to ShLessThanOrEquals e = refl
makes_to ShNot e = refl
makes_to ShAnd e = refl
makes_to ShOr e = refl
makes_to ShXone e = refl
makes_to ShNode e = refl
makes_to ShProperty e = refl
makes_to ShQualifiedValueShape e = refl
makes_to ShQualifiedMinCount e = refl
makes_to ShQualifiedMaxCount e = refl
makes_to ShQualifiedValueShapesDisjoint e = refl
makes_to ShClosed e = refl
makes_to ShIgnoredProperties e = refl
makes_to ShHasValue e = refl
makes_to ShIn e = refl
makes_to ShDeactivated e = cc
makes_to ShPath e = cc
makes_to ShTargetNode e = refl
makes_to ShTargetClass e = refl
makes_to ShTargetSubjectsOf e = refl
makes_to ShTargetObjectsOf e = refl

-- those that take shapes
abbrev IsTakenAs : List Triple → Term → Type 0
IsTakenAs s n =
    ((p : ShapeProperty) × (parent : Term) × TakesShape p × HasProperty s parent p n)
    ⊎ ((p : ShapeProperty) × (parent : Term) × (head : Term) × (members : List Term) × TakesShapes p × HasProperty s parent p head × ListOf s head members × IsMember members n)

takes_from : (s : List Triple) (parent n : Term) (p : RuleProperty) (v : Term) → HasRuleProperty s parent p v → Takes s (role p) v n → IsTakenAs s n
takes_from s parent n properties.Class v h t = absurd t
takes_from s parent n properties.Datatype v h t = absurd t
takes_from s parent n properties.NodeKind v h t = absurd t
takes_from s parent n properties.MinCount v h t = absurd t
takes_from s parent n properties.MaxCount v h t = absurd t
takes_from s parent n properties.MinExclusive v h t = absurd t
takes_from s parent n properties.MinInclusive v h t = absurd t
takes_from s parent n properties.MaxExclusive v h t = absurd t
takes_from s parent n properties.MaxInclusive v h t = absurd t
takes_from s parent n properties.MinLength v h t = absurd t
takes_from s parent n properties.MaxLength v h t = absurd t
takes_from s parent n properties.Pattern v h t = absurd t
takes_from s parent n properties.Flags v h t = absurd t
takes_from s parent n properties.LanguageIn v h t = absurd t
takes_from s parent n properties.UniqueLang v h t = absurd t
takes_from s parent n properties.Equals v h t = absurd t
takes_from s parent n properties.Disjoint v h t = absurd t
takes_from s parent n properties.LessThan v h t = absurd t
takes_from s parent n properties.LessThanOrEquals v h t = absurd t
takes_from s parent n properties.Not v h t = inl (ShNot, parent, inl refl, subst (λ (u : Term). HasProperty s parent ShNot u) t h)
takes_from s parent n properties.And v h t = inr (ShAnd, parent, v, t.0, inl refl, h, t.1, t.2)
takes_from s parent n properties.Or v h t = inr (ShOr, parent, v, t.0, inr (inl refl), h, t.1, t.2)
takes_from s parent n properties.Xone v h t = inr (ShXone, parent, v, t.0, inr (inr refl), h, t.1, t.2)
takes_from s parent n properties.Node v h t = inl (ShNode, parent, inr (inl refl), subst (λ (u : Term). HasProperty s parent ShNode u) t h)
takes_from s parent n properties.Property v h t = inl (ShProperty, parent, inr (inr (inl refl)), subst (λ (u : Term). HasProperty s parent ShProperty u) t h)
takes_from s parent n properties.QualifiedValueShape v h t = inl (ShQualifiedValueShape, parent, inr (inr (inr refl)), subst (λ (u : Term). HasProperty s parent ShQualifiedValueShape u) t h)
takes_from s parent n properties.QualifiedMinCount v h t = absurd t
takes_from s parent n properties.QualifiedMaxCount v h t = absurd t
takes_from s parent n properties.QualifiedValueShapesDisjoint v h t = absurd t
takes_from s parent n properties.Closed v h t = absurd t
takes_from s parent n properties.IgnoredProperties v h t = absurd t
takes_from s parent n properties.HasValue v h t = absurd t
takes_from s parent n properties.In v h t = absurd t
takes_from s parent n properties.TargetNode v h t = absurd t
takes_from s parent n properties.TargetClass v h t = absurd t
takes_from s parent n properties.TargetSubjectsOf v h t = absurd t
takes_from s parent n properties.TargetObjectsOf v h t = absurd t
takes_from s parent n properties.Path v h t = absurd t
takes_from s parent n properties.Severity v h t = absurd t
takes_from s parent n properties.Message v h t = absurd t
takes_from s parent n properties.Deactivated v h t = absurd t
takes_from s parent n properties.Sparql v h t = absurd t
takes_from s parent n properties.Js v h t = absurd t
takes_from s parent n properties.Target v h t = absurd t
takes_from s parent n properties.Entailment v h t = absurd t

takes_one : (s : List Triple) (parent n : Term) (p : ShapeProperty) → TakesShape p → HasProperty s parent p n → IsTaken s n
takes_one s parent n p takes h = elim takes [
  | inl e ↦ (parent, (properties.Not, n, subst (λ (q : ShapeProperty). HasProperty s parent q n) e h, refl))
  | inr (inl e) ↦ (parent, (properties.Node, n, subst (λ (q : ShapeProperty). HasProperty s parent q n) e h, refl))
  | inr (inr (inl e)) ↦ (parent, (properties.Property, n, subst (λ (q : ShapeProperty). HasProperty s parent q n) e h, refl))
  | inr (inr (inr e)) ↦ (parent, (properties.QualifiedValueShape, n, subst (λ (q : ShapeProperty). HasProperty s parent q n) e h, refl))
]

takes_many : (s : List Triple) (parent head n : Term) (members : List Term) (p : ShapeProperty) → TakesShapes p → HasProperty s parent p head → ListOf s head members → IsMember members n → IsTaken s n
takes_many s parent head n members p takes h l i = elim takes [
  | inl e ↦ (parent, (properties.And, head, subst (λ (q : ShapeProperty). HasProperty s parent q head) e h, (members, l, i)))
  | inr (inl e) ↦ (parent, (properties.Or, head, subst (λ (q : ShapeProperty). HasProperty s parent q head) e h, (members, l, i)))
  | inr (inr e) ↦ (parent, (properties.Xone, head, subst (λ (q : ShapeProperty). HasProperty s parent q head) e h, (members, l, i)))
]

pub taken_same : (s : List Triple) (n : Term) → IsTaken s n ↔ IsTakenAs s n
taken_same s n = (
  λ h. takes_from s h.0 n h.1.0 h.1.1 h.1.2 h.1.3,
  λ h. elim h [
    | inl t ↦ takes_one s t.1 n t.0 t.2 t.3
    | inr t ↦ takes_many s t.1 t.2 n t.3 t.0 t.4 t.5 t.6 t.7
  ],
)

pub shape_same : (s : List Triple) (n : Term) → IsRuleShape s n ↔ IsShape s n
shape_same s n = (
  λ h. elim h [
    | inl i ↦ inl i
    | inr (inl i) ↦ inr (inl i)
    | inr (inr (inl m)) ↦ inr (inr (inl (makes_from s n m.0 m.1 m.2 m.3)))
    | inr (inr (inr t)) ↦ inr (inr (inr ((taken_same s n).0 t)))
  ],
  λ h. elim h [
    | inl i ↦ inl i
    | inr (inl i) ↦ inr (inl i)
    | inr (inr (inl m)) ↦ inr (inr (inl (rule_property m.0, m.1, (has_same s n m.0 m.1).1 m.3, makes_to m.0 m.2)))
    | inr (inr (inr t)) ↦ inr (inr (inr ((taken_same s n).1 t)))
  ],
)
