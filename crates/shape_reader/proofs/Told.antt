-- The part that a value of a property says tells the property and the value.
use Rattle.std.proofs.Common.{◌≡◌, List, Option, Some, None, sym, ap, subst}
use Rattle.rdf_model.specs.declared.term.Term.{Term}
use Rattle.rdf_model.specs.declared.triple.Triple.{Triple}
use Rattle.shape_model.specs.declared.component.Component.{Component}
use Rattle.shape_model.specs.declared.component.Component.TheVariants as components
use Rattle.shape_model.specs.Components.{parameter_of}
use Rattle.shape_properties.specs.declared.property.ShapeProperty.{ShapeProperty}
use Rattle.shape_properties.specs.declared.property.ShapeProperty.TheVariants as properties
use Rattle.shape_properties.specs.Syntax.{HasProperty}
use Rattle.shape_ast.specs.declared.constraint.Constraint.{Constraint}
use Rattle.shape_ast.specs.declared.target.Target.{Target}
use Rattle.shape_ast.specs.declared.target.Target.TheVariants.{Node, Class, ImplicitClass, SubjectsOf, ObjectsOf}
use Rattle.shape_ast.specs.Components.{list_component, shape_component, shapes_component, term_component}
use Rattle.shape_ast.specs.Readings.{component_of, parameter}
use Rattle.shape_reader.specs.declared.kind.Kind.{Kind}
use Rattle.shape_reader.specs.declared.kind.Kind.TheVariants as kinds
use Rattle.shape_reader.specs.Kinds.{kind}
use Rattle.shape_reader.specs.Parts.{IsConstraint, SaysConstraint, target_of}
use Rattle.shape_properties.proofs.Defined.{rule_property}

-- what the node has where it has the target
abbrev pub Declares : List Triple → Term → Target Term → Type 0
Declares s n (Node v) = HasProperty s n properties.TargetNode v
Declares s n (Class v) = HasProperty s n properties.TargetClass v
Declares s n ImplicitClass = ⊥
Declares s n (SubjectsOf v) = HasProperty s n properties.TargetSubjectsOf v
Declares s n (ObjectsOf v) = HasProperty s n properties.TargetObjectsOf v

pub declared : (s : List Triple) (n : Term) (p : ShapeProperty) (v : Term) (x : Target Term) → HasProperty s n p v → target_of p v ≡ Some x → Declares s n x
declared s n properties.Class v x h e = cc
declared s n properties.Datatype v x h e = cc
declared s n properties.NodeKind v x h e = cc
declared s n properties.MinCount v x h e = cc
declared s n properties.MaxCount v x h e = cc
declared s n properties.MinExclusive v x h e = cc
declared s n properties.MinInclusive v x h e = cc
declared s n properties.MaxExclusive v x h e = cc
declared s n properties.MaxInclusive v x h e = cc
declared s n properties.MinLength v x h e = cc
declared s n properties.MaxLength v x h e = cc
declared s n properties.Pattern v x h e = cc
declared s n properties.Flags v x h e = cc
declared s n properties.LanguageIn v x h e = cc
declared s n properties.UniqueLang v x h e = cc
declared s n properties.Equals v x h e = cc
declared s n properties.Disjoint v x h e = cc
declared s n properties.LessThan v x h e = cc
declared s n properties.LessThanOrEquals v x h e = cc
declared s n properties.Not v x h e = cc
declared s n properties.And v x h e = cc
declared s n properties.Or v x h e = cc
declared s n properties.Xone v x h e = cc
declared s n properties.Node v x h e = cc
declared s n properties.Property v x h e = cc
declared s n properties.QualifiedValueShape v x h e = cc
declared s n properties.QualifiedMinCount v x h e = cc
declared s n properties.QualifiedMaxCount v x h e = cc
declared s n properties.QualifiedValueShapesDisjoint v x h e = cc
declared s n properties.Closed v x h e = cc
declared s n properties.IgnoredProperties v x h e = cc
declared s n properties.HasValue v x h e = cc
declared s n properties.In v x h e = cc
declared s n properties.TargetNode v x h e = let d : Node v ≡ x = cc in subst (λ (y : Target Term). Declares s n y) d h
declared s n properties.TargetClass v x h e = let d : Class v ≡ x = cc in subst (λ (y : Target Term). Declares s n y) d h
declared s n properties.TargetSubjectsOf v x h e = let d : SubjectsOf v ≡ x = cc in subst (λ (y : Target Term). Declares s n y) d h
declared s n properties.TargetObjectsOf v x h e = let d : ObjectsOf v ≡ x = cc in subst (λ (y : Target Term). Declares s n y) d h
declared s n properties.Path v x h e = cc
declared s n properties.Severity v x h e = cc
declared s n properties.Message v x h e = cc
declared s n properties.Deactivated v x h e = cc
declared s n properties.Sparql v x h e = cc
declared s n properties.Js v x h e = cc
declared s n properties.Target v x h e = cc
declared s n properties.Entailment v x h e = cc

-- the component of a constraint by its kind
component_in : Kind → Option Component
component_in (kinds.Term component) = Some (term_component component)
component_in (kinds.List component) = Some (list_component component)
component_in (kinds.Shape component) = Some (shape_component component)
component_in (kinds.Shapes component) = Some (shapes_component component)
component_in kinds.Nothing = None

same_component : (s : List Triple) (nodes : List Term) (a : Kind) (v : Term) (k : Constraint Term) → IsConstraint s nodes a v k → component_in a ≡ Some (component_of k)
unfolding component_in
same_component s nodes (kinds.Term component) v k h = ap (λ (x : Constraint Term). Some (component_of x)) (sym h)
same_component s nodes (kinds.List component) v k h = ap (λ (x : Constraint Term). Some (component_of x)) (sym h.2)
same_component s nodes (kinds.Shape component) v k h = ap (λ (x : Constraint Term). Some (component_of x)) (sym h.2)
same_component s nodes (kinds.Shapes component) v k h = ap (λ (x : Constraint Term). Some (component_of x)) (sym h.2)
same_component s nodes kinds.Nothing v k h = absurd h

pub same_parameter : (s : List Triple) (nodes : List Term) (a : Kind) (v : Term) (k : Constraint Term) → IsConstraint s nodes a v k → parameter k ≡ v
same_parameter s nodes (kinds.Term component) v k h = ap (λ (x : Constraint Term). parameter x) h
same_parameter s nodes (kinds.List component) v k h = ap (λ (x : Constraint Term). parameter x) h.2
same_parameter s nodes (kinds.Shape component) v k h = ap (λ (x : Constraint Term). parameter x) h.2
same_parameter s nodes (kinds.Shapes component) v k h = ap (λ (x : Constraint Term). parameter x) h.2
same_parameter s nodes kinds.Nothing v k h = absurd h

property_of : (p : ShapeProperty) (c : Component) → component_in (kind p) ≡ Some c → rule_property (parameter_of c) ≡ p
unfolding component_in
property_of properties.Class c e = let d : components.Class ≡ c = cc in ap (λ (x : Component). rule_property (parameter_of x)) (sym d)
property_of properties.Datatype c e = let d : components.Datatype ≡ c = cc in ap (λ (x : Component). rule_property (parameter_of x)) (sym d)
property_of properties.NodeKind c e = let d : components.NodeKind ≡ c = cc in ap (λ (x : Component). rule_property (parameter_of x)) (sym d)
property_of properties.MinCount c e = let d : components.MinCount ≡ c = cc in ap (λ (x : Component). rule_property (parameter_of x)) (sym d)
property_of properties.MaxCount c e = let d : components.MaxCount ≡ c = cc in ap (λ (x : Component). rule_property (parameter_of x)) (sym d)
property_of properties.MinExclusive c e = let d : components.MinExclusive ≡ c = cc in ap (λ (x : Component). rule_property (parameter_of x)) (sym d)
property_of properties.MinInclusive c e = let d : components.MinInclusive ≡ c = cc in ap (λ (x : Component). rule_property (parameter_of x)) (sym d)
property_of properties.MaxExclusive c e = let d : components.MaxExclusive ≡ c = cc in ap (λ (x : Component). rule_property (parameter_of x)) (sym d)
property_of properties.MaxInclusive c e = let d : components.MaxInclusive ≡ c = cc in ap (λ (x : Component). rule_property (parameter_of x)) (sym d)
property_of properties.MinLength c e = let d : components.MinLength ≡ c = cc in ap (λ (x : Component). rule_property (parameter_of x)) (sym d)
property_of properties.MaxLength c e = let d : components.MaxLength ≡ c = cc in ap (λ (x : Component). rule_property (parameter_of x)) (sym d)
property_of properties.Pattern c e = cc
property_of properties.Flags c e = cc
property_of properties.LanguageIn c e = let d : components.LanguageIn ≡ c = cc in ap (λ (x : Component). rule_property (parameter_of x)) (sym d)
property_of properties.UniqueLang c e = let d : components.UniqueLang ≡ c = cc in ap (λ (x : Component). rule_property (parameter_of x)) (sym d)
property_of properties.Equals c e = let d : components.Equals ≡ c = cc in ap (λ (x : Component). rule_property (parameter_of x)) (sym d)
property_of properties.Disjoint c e = let d : components.Disjoint ≡ c = cc in ap (λ (x : Component). rule_property (parameter_of x)) (sym d)
property_of properties.LessThan c e = let d : components.LessThan ≡ c = cc in ap (λ (x : Component). rule_property (parameter_of x)) (sym d)
property_of properties.LessThanOrEquals c e = let d : components.LessThanOrEquals ≡ c = cc in ap (λ (x : Component). rule_property (parameter_of x)) (sym d)
property_of properties.Not c e = let d : components.Not ≡ c = cc in ap (λ (x : Component). rule_property (parameter_of x)) (sym d)
property_of properties.And c e = let d : components.And ≡ c = cc in ap (λ (x : Component). rule_property (parameter_of x)) (sym d)
property_of properties.Or c e = let d : components.Or ≡ c = cc in ap (λ (x : Component). rule_property (parameter_of x)) (sym d)
property_of properties.Xone c e = let d : components.Xone ≡ c = cc in ap (λ (x : Component). rule_property (parameter_of x)) (sym d)
property_of properties.Node c e = let d : components.Node ≡ c = cc in ap (λ (x : Component). rule_property (parameter_of x)) (sym d)
property_of properties.Property c e = cc
property_of properties.QualifiedValueShape c e = cc
property_of properties.QualifiedMinCount c e = let d : components.QualifiedMinCount ≡ c = cc in ap (λ (x : Component). rule_property (parameter_of x)) (sym d)
property_of properties.QualifiedMaxCount c e = let d : components.QualifiedMaxCount ≡ c = cc in ap (λ (x : Component). rule_property (parameter_of x)) (sym d)
property_of properties.QualifiedValueShapesDisjoint c e = cc
property_of properties.Closed c e = let d : components.Closed ≡ c = cc in ap (λ (x : Component). rule_property (parameter_of x)) (sym d)
property_of properties.IgnoredProperties c e = cc
property_of properties.HasValue c e = let d : components.HasValue ≡ c = cc in ap (λ (x : Component). rule_property (parameter_of x)) (sym d)
property_of properties.In c e = let d : components.In ≡ c = cc in ap (λ (x : Component). rule_property (parameter_of x)) (sym d)
property_of properties.TargetNode c e = cc
property_of properties.TargetClass c e = cc
property_of properties.TargetSubjectsOf c e = cc
property_of properties.TargetObjectsOf c e = cc
property_of properties.Path c e = cc
property_of properties.Severity c e = cc
property_of properties.Message c e = cc
property_of properties.Deactivated c e = cc
property_of properties.Sparql c e = cc
property_of properties.Js c e = cc
property_of properties.Target c e = cc
property_of properties.Entailment c e = cc

pub same_property : (s : List Triple) (nodes : List Term) (p : ShapeProperty) (v : Term) (k : Constraint Term) → SaysConstraint s nodes p v k → rule_property (parameter_of (component_of k)) ≡ p
same_property s nodes p v k h = property_of p (component_of k) (same_component s nodes (kind p) v k h)
