-- That each part of a compiled shape stands there once.
use Rattle.std.specs.Prelude.{List, [], ◌∷◌, map}
use Rattle.std.specs.List.{Contains}
use Rattle.std.specs.Ordering.{nat_cmp}
use Rattle.collections.specs.Ordered.{IsAscending}
use Rattle.rdf_model.specs.declared.term.Term.{Term}
use Rattle.rdf_model.specs.declared.triple.Triple.{Triple}
use Rattle.rdf_model.specs.Terms.{triple_cmp}
use Rattle.shape_model.specs.Components.{parameter_of}
use Rattle.shape_model.specs.Vocabulary.{property_iri, rdf_type, rdfs_class, ShTargetClass, ShTargetNode, ShTargetObjectsOf, ShTargetSubjectsOf}
use Rattle.shape_ast.specs.declared.constraint.Constraint.{Constraint}
use Rattle.shape_ast.specs.declared.shape.Shape.{Shape}
use Rattle.shape_ast.specs.declared.target.Target.{Target}
use Rattle.shape_ast.specs.declared.target.Target.TheVariants.{Node, Class, ImplicitClass, SubjectsOf, ObjectsOf}
use Rattle.shape_ast.specs.Readings.{ReadShape, component_of, parameter, read_shapes}

-- no item stands twice
abbrev pub AreDistinct : {X : Type 0} → List X → Type 0
AreDistinct [] = Unit {0}
AreDistinct (x ∷ xs) = (Contains xs x → ⊥) × AreDistinct xs

-- the triple of the node that says the constraint: it has this value of the parameter (SHACL 4)
abbrev pub constraint_triple : Term → Constraint Term → Triple
constraint_triple n k = record { subject = n; predicate = property_iri (parameter_of (component_of k)); object = parameter k }

-- the triple that declares the target (SHACL 2.1.3); for an implicit class target, that the node is a class
abbrev pub target_triple : Term → Target Term → Triple
target_triple n (Node v) = record { subject = n; predicate = property_iri ShTargetNode; object = v }
target_triple n (Class v) = record { subject = n; predicate = property_iri ShTargetClass; object = v }
target_triple n ImplicitClass = record { subject = n; predicate = rdf_type; object = rdfs_class }
target_triple n (SubjectsOf v) = record { subject = n; predicate = property_iri ShTargetSubjectsOf; object = v }
target_triple n (ObjectsOf v) = record { subject = n; predicate = property_iri ShTargetObjectsOf; object = v }

-- Each part of the shape stands there once: the constraints are said by different triples, and stand in their order; no
-- target stands twice; the property shapes stand in the order of their places.
pub record IsOnce (c : ReadShape) : Type 0 where
  pub constraints : IsAscending triple_cmp (map (constraint_triple c.node) c.constraints)
  pub targets : AreDistinct c.targets
  pub properties : IsAscending nat_cmp c.properties

-- of all the compiled shapes
abbrev pub AreOnce : List (Shape Term) → Type 0
AreOnce shapes = (c : ReadShape) → Contains (read_shapes shapes) c → IsOnce c
