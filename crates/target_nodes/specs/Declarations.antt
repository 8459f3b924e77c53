-- What declarations of targets say of a shape.
use Rattle.std.specs.Prelude.{◌≡◌, ℕ, false, List}
use Rattle.std.specs.List.{Contains}
use Rattle.rdf_model.specs.declared.term.Term.{Term}
use Rattle.rdf_model.specs.declared.triple.Triple.{Triple}
use Rattle.rdf_model.specs.declared.look.Look.{Look}
use Rattle.rdf_model.specs.declared.look.Look.TheVariants.{Out, In}
use Rattle.rdf_model.specs.Numbers.{term_at}
use Rattle.shape_model.specs.Vocabulary.{ShapeProperty, ShTargetNode, ShTargetClass, ShTargetSubjectsOf, ShTargetObjectsOf}
use Rattle.shape_model.specs.Triples.{Has}
use Rattle.shape_model.specs.Instances.{Instance, class_path}
use Rattle.shape_model.specs.Readings.{Reading}
use Rattle.shape_model.specs.NodeLooks.{PathReads}
use Rattle.shape_ast.specs.declared.target.Target.{Target}
use Rattle.shape_ast.specs.declared.target.Target.TheVariants.{Node, Class, ImplicitClass, SubjectsOf, ObjectsOf}

-- the declarations give the shape this value of the property
abbrev pub Declares : List Term → List (Target ℕ) → ShapeProperty → Term → Type 0
Declares terms targets ShTargetNode v = (n : ℕ) × Contains targets (Node n) × (term_at terms n ≡ v)
Declares terms targets ShTargetClass v = (n : ℕ) × Contains targets (Class n) × (term_at terms n ≡ v)
Declares terms targets ShTargetSubjectsOf v = (n : ℕ) × Contains targets (SubjectsOf n) × (term_at terms n ≡ v)
Declares terms targets ShTargetObjectsOf v = (n : ℕ) × Contains targets (ObjectsOf n) × (term_at terms n ≡ v)
Declares terms targets p v = ⊥

-- what they say, and no more
abbrev pub declared_reading : List Term → List (Target ℕ) → Reading
declared_reading terms targets = record {
  path = λ p. ⊥;
  is_node_shape = ⊥;
  has = Declares terms targets;
  has_list = λ p head members. ⊥;
  sibling = λ t. ⊥;
  allowed = λ t. ⊥;
  is_class = Contains targets ImplicitClass;
}

-- the node is a target by this declaration of the shape
abbrev pub IsTargetBy : List Term → List Triple → Term → Target ℕ → Term → Type 0
IsTargetBy terms g shape (Node n) f = term_at terms n ≡ f
IsTargetBy terms g shape (Class n) f = Instance g f (term_at terms n)
IsTargetBy terms g shape ImplicitClass f = Instance g f shape
IsTargetBy terms g shape (SubjectsOf n) f = (o : Term) × Has g f (term_at terms n) o
IsTargetBy terms g shape (ObjectsOf n) f = (x : Term) × Has g x (term_at terms n) f

-- the look is one of those that decide whether it is
abbrev pub DecidesBy : List Term → List Triple → Target ℕ → Term → Look Term → Type 0
DecidesBy terms g (Node n) f look = ⊥
DecidesBy terms g (Class n) f look = PathReads g false class_path f look
DecidesBy terms g ImplicitClass f look = PathReads g false class_path f look
DecidesBy terms g (SubjectsOf n) f look = look ≡ Out f (term_at terms n)
DecidesBy terms g (ObjectsOf n) f look = look ≡ In (term_at terms n) f

-- by some declaration
abbrev pub IsTargetBySome : List Term → List Triple → Term → List (Target ℕ) → Term → Type 0
IsTargetBySome terms g shape targets f = (t : Target ℕ) × Contains targets t × IsTargetBy terms g shape t f

abbrev pub DecidesBySome : List Term → List Triple → List (Target ℕ) → Term → Look Term → Type 0
DecidesBySome terms g targets f look = (t : Target ℕ) × Contains targets t × DecidesBy terms g t f look
