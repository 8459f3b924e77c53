-- The looks of a compiled shape at a focus node, as an evaluation makes them, and when just these have been added to a footprint.
use Rattle.std.specs.Prelude.{◌≡◌, ℕ, Bool, false, List, length, Option, Some, None}
use Rattle.std.specs.List.{Contains}
use Rattle.rdf_model.specs.declared.term.Term.{Term}
use Rattle.rdf_model.specs.declared.triple.Triple.{Triple}
use Rattle.rdf_model.specs.declared.ids.Ids.{Ids}
use Rattle.rdf_model.specs.declared.look.Look.{Look}
use Rattle.rdf_model.specs.declared.look.Look.TheVariants.{Out, OutAny}
use Rattle.rdf_model.specs.Numbers.{graph_of, term_at}
use Rattle.shape_model.specs.Limits.{levels_limit}
use Rattle.shape_model.specs.declared.component.Component.{Component}
use Rattle.shape_model.specs.declared.component.Component.TheVariants as components
use Rattle.shape_model.specs.Instances.{Instance, class_path}
use Rattle.shape_model.specs.NodeLooks.{IsLook, PathReads, ShapeReads}
use Rattle.shape_model.specs.Paths.{Path as DefinedPath}
use Rattle.shape_model.specs.Readings.{IsAcyclic, IsShallow, reading}
use Rattle.shape_model.specs.ShapeLooks.{ResultLook}
use Rattle.shape_model.specs.Vocabulary.{true_literal}
use Rattle.component_rows.specs.Answers.{AreAnswersTo}
use Rattle.component_rows.specs.Nodes.{HasNode}
use Rattle.path_eval.specs.Naming.{AddsLooks}
use Rattle.shape_ast.specs.declared.constraint.Constraint.{Constraint}
use Rattle.shape_ast.specs.declared.shape.Shape.{Shape}
use Rattle.shape_ast.specs.Readings.{component_of, named_shapes, parameter}
use Rattle.shape_ast.specs.Standing.{IsAt, StandFor}
use Rattle.shape_eval.specs.Results.{AtPlace}

-- What a component looks at by itself, at the value q of its parameter and the focus node f: the class path at each value
-- node for sh:class (SHACL 4.1.1), the values at f of the property with which the value nodes are compared (SHACL 4.5), all
-- values at each value node where sh:closed is true (SHACL 4.8.1).
abbrev pub ComponentReads : List Triple → (Term → Type 0) → Term → Component → Term → Look Term → Type 0
ComponentReads g IsValue f components.Class q look = (v : Term) × IsValue v × PathReads g false class_path v look
ComponentReads g IsValue f components.Equals q look = look ≡ Out f q
ComponentReads g IsValue f components.Disjoint q look = look ≡ Out f q
ComponentReads g IsValue f components.LessThan q look = look ≡ Out f q
ComponentReads g IsValue f components.LessThanOrEquals q look = look ≡ Out f q
ComponentReads g IsValue f components.Closed q look = (q ≡ true_literal) × ((v : Term) × IsValue v × (look ≡ OutAny v))
ComponentReads g IsValue f component q look = ⊥

-- so does a constraint
abbrev pub ConstraintReads : List Triple → (Term → Type 0) → Term → Constraint Term → Look Term → Type 0
ConstraintReads g IsValue f k look = ComponentReads g IsValue f (component_of k) (parameter k) look

-- for sh:class the answers say of each value node whether it is an instance of the class q
abbrev pub AreInstanceAnswers : List Triple → Component → Term → List Term → List ℕ → List Bool → Type 0
AreInstanceAnswers g components.Class q terms values answers = (length answers ≡ length values) × AreAnswersTo (λ v. Instance g v q) terms values answers
AreInstanceAnswers g component q terms values answers = Unit {0}

-- the looks of a shape's path, if it has one
abbrev pub OptionalReads : List Triple → Option DefinedPath → Term → Look Term → Type 0
OptionalReads g None f look = ⊥
OptionalReads g (Some p) f look = PathReads g false p f look

-- those of some item of the list, and those at some of the value nodes
abbrev pub ReadsOfSome : {X : Type 0} → List X → (X → Look Term → Type 0) → Look Term → Type 0
ReadsOfSome xs Reads look = (x : _) × Contains xs x × Reads x look

abbrev pub ReadsAtEach : List Term → List ℕ → (Term → Look Term → Type 0) → Look Term → Type 0
ReadsAtEach terms values Reads look = (v : Term) × HasNode terms values v × Reads v look

-- those of the shape at the place at the value nodes, through chains of fewer references than the depth
abbrev pub PlaceReads : List Term → List Ids → List (Shape ℕ) → List Triple → ℕ → List ℕ → ℕ → Look Term → Type 0
PlaceReads terms ids shapes s depth values place look =
    (m : Term) × IsAt (named_shapes terms shapes) place m × ReadsAtEach terms values (ShapeReads depth (graph_of terms ids) (reading s) m) look

-- Just the looks of the shape at the place n at the focus node f have been added, through chains of fewer references than
-- the depth; so they have at each of some value nodes, and those of the shapes at some places.
abbrev pub AddsAt : List Term → List Ids → List (Shape ℕ) → ℕ → ℕ → ℕ → List (Look ℕ) → List (Look ℕ) → Type 0
AddsAt terms ids shapes depth n f old new = AtPlace terms shapes n (λ s c. AddsLooks terms (ShapeReads depth (graph_of terms ids) (reading s) c.node (term_at terms f)) old new)

abbrev pub AddsAtEach : List Term → List Ids → List (Shape ℕ) → ℕ → ℕ → List ℕ → List (Look ℕ) → List (Look ℕ) → Type 0
AddsAtEach terms ids shapes depth n values old new =
    AtPlace terms shapes n (λ s c. AddsLooks terms (ReadsAtEach terms values (ShapeReads depth (graph_of terms ids) (reading s) c.node)) old new)

abbrev pub AddsAtPlaces : List Term → List Ids → List (Shape ℕ) → ℕ → List ℕ → List ℕ → List (Look ℕ) → List (Look ℕ) → Type 0
AddsAtPlaces terms ids shapes depth places values old new =
    (s : List Triple) → StandFor (named_shapes terms shapes) s → AddsLooks terms (ReadsOfSome places (PlaceReads terms ids shapes s depth values)) old new

-- Just the looks of the shape at the place n at the focus node f have been added, without those of its targets, for each
-- shapes graph that the shapes stand for, in which no shape refers to itself and no chain of references is longer than
-- the limit.
abbrev pub AddsShapeLooks : List Term → List Ids → List (Shape ℕ) → ℕ → ℕ → List (Look ℕ) → List (Look ℕ) → Type 0
AddsShapeLooks terms ids shapes n f old new = AtPlace terms shapes n (λ s c. IsAcyclic s → IsShallow levels_limit s → AddsLooks terms (IsLook (graph_of terms ids) (ResultLook s c.node) (term_at terms f)) old new)
