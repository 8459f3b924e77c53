-- A shape is one of those that the rules speak of.
use Rattle.std.proofs.Common.{◌≡◌, List, IsTrue, refl, subst, inl, inr}
use Rattle.rdf_model.specs.declared.term.Term.{Term}
use Rattle.rdf_model.specs.declared.triple.Triple.{Triple}
use Rattle.shape_model.specs.Vocabulary.{ShapeProperty, property_iri, ShClass, ShDatatype, ShNodeKind, ShMinCount, ShMaxCount, ShMinExclusive, ShMinInclusive, ShMaxExclusive, ShMaxInclusive, ShMinLength, ShMaxLength, ShPattern, ShFlags, ShLanguageIn, ShUniqueLang, ShEquals, ShDisjoint, ShLessThan, ShLessThanOrEquals, ShNot, ShAnd, ShOr, ShXone, ShNode, ShProperty, ShQualifiedValueShape, ShQualifiedMinCount, ShQualifiedMaxCount, ShQualifiedValueShapesDisjoint, ShClosed, ShIgnoredProperties, ShHasValue, ShIn, ShDeactivated, ShPath, ShTargetNode, ShTargetClass, ShTargetSubjectsOf, ShTargetObjectsOf}
use Rattle.shape_model.specs.ShapeSyntax.{HasProperty, IsShape, ListOf, MakesShape, TakesShape, TakesShapes}
use Rattle.shape_model.specs.Triples.{Has, IsMember}
use Rattle.shape_properties.specs.declared.property.ShapeProperty.{ShapeProperty as RuleProperty}
use Rattle.shape_properties.specs.declared.property.ShapeProperty.TheVariants as properties
use Rattle.shape_properties.specs.Properties.{property_iri as rule_iri}
use Rattle.shape_properties.specs.Table.{role}
use Rattle.shape_properties.specs.Syntax.{IsTaken, makes_shape, IsShape as IsRuleShape}

-- the property is one of the rules that makes its subject a shape
makes : (p : ShapeProperty) → MakesShape p → (q : RuleProperty) × (property_iri p ≡ rule_iri q) × IsTrue (makes_shape (role q))
makes ShClass e = (properties.Class, refl, refl)
makes ShDatatype e = (properties.Datatype, refl, refl)
makes ShNodeKind e = (properties.NodeKind, refl, refl)
makes ShMinCount e = (properties.MinCount, refl, refl)
makes ShMaxCount e = (properties.MaxCount, refl, refl)
makes ShMinExclusive e = (properties.MinExclusive, refl, refl)
makes ShMinInclusive e = (properties.MinInclusive, refl, refl)
makes ShMaxExclusive e = (properties.MaxExclusive, refl, refl)
makes ShMaxInclusive e = (properties.MaxInclusive, refl, refl)
makes ShMinLength e = (properties.MinLength, refl, refl)
makes ShMaxLength e = (properties.MaxLength, refl, refl)
makes ShPattern e = (properties.Pattern, refl, refl)
makes ShFlags e = (properties.Flags, refl, refl)
makes ShLanguageIn e = (properties.LanguageIn, refl, refl)
makes ShUniqueLang e = (properties.UniqueLang, refl, refl)
makes ShEquals e = (properties.Equals, refl, refl)
makes ShDisjoint e = (properties.Disjoint, refl, refl)
makes ShLessThan e = (properties.LessThan, refl, refl)
makes ShLessThanOrEquals e = (properties.LessThanOrEquals, refl, refl)
makes ShNot e = (properties.Not, refl, refl)
makes ShAnd e = (properties.And, refl, refl)
makes ShOr e = (properties.Or, refl, refl)
makes ShXone e = (properties.Xone, refl, refl)
makes ShNode e = (properties.Node, refl, refl)
makes ShProperty e = (properties.Property, refl, refl)
makes ShQualifiedValueShape e = (properties.QualifiedValueShape, refl, refl)
makes ShQualifiedMinCount e = (properties.QualifiedMinCount, refl, refl)
makes ShQualifiedMaxCount e = (properties.QualifiedMaxCount, refl, refl)
makes ShQualifiedValueShapesDisjoint e = (properties.QualifiedValueShapesDisjoint, refl, refl)
makes ShClosed e = (properties.Closed, refl, refl)
makes ShIgnoredProperties e = (properties.IgnoredProperties, refl, refl)
makes ShHasValue e = (properties.HasValue, refl, refl)
makes ShIn e = (properties.In, refl, refl)
makes ShDeactivated e = cc
makes ShPath e = cc
makes ShTargetNode e = (properties.TargetNode, refl, refl)
makes ShTargetClass e = (properties.TargetClass, refl, refl)
makes ShTargetSubjectsOf e = (properties.TargetSubjectsOf, refl, refl)
makes ShTargetObjectsOf e = (properties.TargetObjectsOf, refl, refl)

module _ (s : List Triple) (parent n : Term) where
  takes_one : (p : ShapeProperty) → TakesShape p → HasProperty s parent p n → IsTaken s n
  takes_one p takes h = elim takes [
    | inl e ↦ (parent, (properties.Not, n, subst (λ (q : ShapeProperty). HasProperty s parent q n) e h, refl))
    | inr (inl e) ↦ (parent, (properties.Node, n, subst (λ (q : ShapeProperty). HasProperty s parent q n) e h, refl))
    | inr (inr (inl e)) ↦ (parent, (properties.Property, n, subst (λ (q : ShapeProperty). HasProperty s parent q n) e h, refl))
    | inr (inr (inr e)) ↦ (parent, (properties.QualifiedValueShape, n, subst (λ (q : ShapeProperty). HasProperty s parent q n) e h, refl))
  ]

  takes_many : (head : Term) (members : List Term) (p : ShapeProperty) → TakesShapes p → HasProperty s parent p head → ListOf s head members → IsMember members n → IsTaken s n
  takes_many head members p takes h l i = elim takes [
    | inl e ↦ (parent, (properties.And, head, subst (λ (q : ShapeProperty). HasProperty s parent q head) e h, (members, l, i)))
    | inr (inl e) ↦ (parent, (properties.Or, head, subst (λ (q : ShapeProperty). HasProperty s parent q head) e h, (members, l, i)))
    | inr (inr e) ↦ (parent, (properties.Xone, head, subst (λ (q : ShapeProperty). HasProperty s parent q head) e h, (members, l, i)))
  ]

pub rule_shape : (s : List Triple) (n : Term) → IsShape s n → IsRuleShape s n
rule_shape s n = elim [
  | inl i ↦ inl i
  | inr (inl i) ↦ inr (inl i)
  | inr (inr (inl m)) ↦ let k = makes m.0 m.2 in inr (inr (inl (k.0, m.1, subst (λ (iri : Term). Has s n iri m.1) k.1 m.3, k.2)))
  | inr (inr (inr (inl t))) ↦ inr (inr (inr (takes_one s t.1 n t.0 t.2 t.3)))
  | inr (inr (inr (inr t))) ↦ inr (inr (inr (takes_many s t.1 n t.2 t.3 t.0 t.4 t.5 t.6 t.7)))
]
