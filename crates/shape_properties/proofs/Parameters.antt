-- The parameters by the roles of properties are those of SHACL.
use Rattle.std.proofs.Common.{◌≡◌, ◌∙◌, List, true, IsTrue, refl, sym, ap, subst}
use Rattle.std.specs.Prelude.{◌↔◌}
use Rattle.rdf_model.specs.declared.term.Term.{Term}
use Rattle.rdf_model.specs.declared.triple.Triple.{Triple}
use Rattle.shape_model.specs.Parameters.{Param, is_parameter}
use Rattle.shape_model.specs.ShapeSyntax.{HasProperty}
use Rattle.shape_model.specs.Vocabulary.{ShapeProperty, property_iri, ShClass, ShDatatype, ShNodeKind, ShMinCount, ShMaxCount, ShMinExclusive, ShMinInclusive, ShMaxExclusive, ShMaxInclusive, ShMinLength, ShMaxLength, ShPattern, ShFlags, ShLanguageIn, ShUniqueLang, ShEquals, ShDisjoint, ShLessThan, ShLessThanOrEquals, ShNot, ShAnd, ShOr, ShXone, ShNode, ShProperty, ShQualifiedValueShape, ShQualifiedMinCount, ShQualifiedMaxCount, ShQualifiedValueShapesDisjoint, ShClosed, ShIgnoredProperties, ShHasValue, ShIn, ShDeactivated, ShPath, ShTargetNode, ShTargetClass, ShTargetSubjectsOf, ShTargetObjectsOf}
use Rattle.shape_syntax.proofs.Values.{value_of}
use Rattle.shape_syntax.specs.Gathering.{Gives}
use Rattle.shape_properties.specs.declared.property.ShapeProperty.{ShapeProperty as RuleProperty}
use Rattle.shape_properties.specs.declared.property.ShapeProperty.TheVariants as properties
use Rattle.shape_properties.specs.Params.{SaysParam, is_param}
use Rattle.shape_properties.specs.Properties.{property_iri as rule_iri}
use Rattle.shape_properties.specs.Table.{role}
use Rattle.shape_properties.proofs.Defined.{rule_property, same_iri}
use Rattle.shape_properties.proofs.SomeValues.{AreOf}

-- the parameters among the properties
param_from : (p : RuleProperty) → IsTrue (is_param (role p)) → (q : ShapeProperty) × (is_parameter q ≡ true) × (property_iri q ≡ rule_iri p)
param_from properties.Class e = (ShClass, refl, refl)
param_from properties.Datatype e = (ShDatatype, refl, refl)
param_from properties.NodeKind e = (ShNodeKind, refl, refl)
param_from properties.MinCount e = (ShMinCount, refl, refl)
param_from properties.MaxCount e = (ShMaxCount, refl, refl)
param_from properties.MinExclusive e = (ShMinExclusive, refl, refl)
param_from properties.MinInclusive e = (ShMinInclusive, refl, refl)
param_from properties.MaxExclusive e = (ShMaxExclusive, refl, refl)
param_from properties.MaxInclusive e = (ShMaxInclusive, refl, refl)
param_from properties.MinLength e = (ShMinLength, refl, refl)
param_from properties.MaxLength e = (ShMaxLength, refl, refl)
param_from properties.Pattern e = (ShPattern, refl, refl)
param_from properties.Flags e = (ShFlags, refl, refl)
param_from properties.LanguageIn e = (ShLanguageIn, refl, refl)
param_from properties.UniqueLang e = (ShUniqueLang, refl, refl)
param_from properties.Equals e = (ShEquals, refl, refl)
param_from properties.Disjoint e = (ShDisjoint, refl, refl)
param_from properties.LessThan e = (ShLessThan, refl, refl)
param_from properties.LessThanOrEquals e = (ShLessThanOrEquals, refl, refl)
param_from properties.Not e = (ShNot, refl, refl)
param_from properties.And e = (ShAnd, refl, refl)
param_from properties.Or e = (ShOr, refl, refl)
param_from properties.Xone e = (ShXone, refl, refl)
param_from properties.Node e = (ShNode, refl, refl)
param_from properties.Property e = (ShProperty, refl, refl)
param_from properties.QualifiedValueShape e = (ShQualifiedValueShape, refl, refl)
param_from properties.QualifiedMinCount e = (ShQualifiedMinCount, refl, refl)
param_from properties.QualifiedMaxCount e = (ShQualifiedMaxCount, refl, refl)
param_from properties.QualifiedValueShapesDisjoint e = (ShQualifiedValueShapesDisjoint, refl, refl)
param_from properties.Closed e = (ShClosed, refl, refl)
param_from properties.IgnoredProperties e = (ShIgnoredProperties, refl, refl)
param_from properties.HasValue e = (ShHasValue, refl, refl)
param_from properties.In e = (ShIn, refl, refl)
param_from properties.TargetNode e = cc
param_from properties.TargetClass e = cc
param_from properties.TargetSubjectsOf e = cc
param_from properties.TargetObjectsOf e = cc
param_from properties.Path e = cc
param_from properties.Severity e = cc
param_from properties.Message e = cc
param_from properties.Deactivated e = cc
param_from properties.Sparql e = cc
param_from properties.Js e = cc
param_from properties.Target e = cc
param_from properties.Entailment e = cc

param_to : (q : ShapeProperty) → is_parameter q ≡ true → IsTrue (is_param (role (rule_property q)))
param_to ShClass e = refl
param_to ShDatatype e = refl
param_to ShNodeKind e = refl
param_to ShMinCount e = refl
param_to ShMaxCount e = refl
param_to ShMinExclusive e = refl
param_to ShMinInclusive e = refl
param_to ShMaxExclusive e = refl
param_to ShMaxInclusive e = refl
param_to ShMinLength e = refl
param_to ShMaxLength e = refl
param_to ShPattern e = refl
param_to ShFlags e = refl
param_to ShLanguageIn e = refl
param_to ShUniqueLang e = refl
param_to ShEquals e = refl
param_to ShDisjoint e = refl
param_to ShLessThan e = refl
param_to ShLessThanOrEquals e = refl
param_to ShNot e = refl
param_to ShAnd e = refl
param_to ShOr e = refl
param_to ShXone e = refl
param_to ShNode e = refl
param_to ShProperty e = refl
param_to ShQualifiedValueShape e = refl
param_to ShQualifiedMinCount e = refl
param_to ShQualifiedMaxCount e = refl
param_to ShQualifiedValueShapesDisjoint e = refl
param_to ShClosed e = refl
param_to ShIgnoredProperties e = refl
param_to ShHasValue e = refl
param_to ShIn e = refl
param_to ShDeactivated e = cc
param_to ShPath e = cc
param_to ShTargetNode e = cc
param_to ShTargetClass e = cc
param_to ShTargetSubjectsOf e = cc
param_to ShTargetObjectsOf e = cc

-- those that the triples of the node say are its parameters
pub params_said : (s own : List Triple) (n p v : Term) → AreOf s own n → Gives SaysParam own (p, v) ↔ Param s n p v
params_said s own n p v all = (
  λ h.
      let t = h.0 in
      let k = (all t).0 h.1 in
      let of = h.2.0 in
      let q = param_from of.0 of.2 in
      let is_p : p ≡ t.predicate = ap (λ (x : Term × Term). x.0) h.2.1 in
      let is_v : v ≡ t.object = ap (λ (x : Term × Term). x.1) h.2.1 in
      (q.0, q.1, q.2 ∙ (sym of.1 ∙ sym is_p), subst (λ (w : Term). HasProperty s n q.0 w) (sym is_v) (value_of s n (property_iri q.0) t (k.0, k.1, of.1 ∙ sym q.2))),
  λ h.
      let t : Triple = record { subject = n; predicate = property_iri h.0; object = v } in
      (t, (all t).1 (h.3, refl), ((rule_property h.0, sym (same_iri h.0), param_to h.0 h.1), λ i. (sym h.2 i, v))),
)
