-- Worked rows of the components (SHACL 4), each at a shape e:P with one parameter and the focus node e:a.
use Rattle.std.specs.Prelude.{◌≡◌, ◌⊎◌, ℕ, List, [], ◌∷◌, ◌++◌, Some, None, codes}
use Rattle.rdf_model.specs.declared.term.Term.{Term}
use Rattle.rdf_model.specs.declared.term.Term.TheVariants.{Blank, Iri, Literal}
use Rattle.shape_model.specs.declared.component.Component.{Component}
use Rattle.shape_model.specs.declared.component.Component.TheVariants as components
use Rattle.shape_model.specs.declared.result_row.ResultRow.{ResultRow}
use Rattle.shape_model.specs.Components.{ComponentRow, PropertyRow, Surroundings, parameter_of, row_about, row_without_value}
use Rattle.shape_model.specs.Readings.{Reading}
use Rattle.shape_model.specs.Vocabulary.{ShProperty, ShQualifiedMaxCount, ShQualifiedMinCount, ShQualifiedValueShape, ShapeProperty, string_literal, true_literal}
use Rattle.validation_tests.specs.Examples.{example, integer}

abbrev pub shape : Term
shape = example (codes "P")

abbrev pub focus : Term
focus = example (codes "a")

-- a value node, another term, a class or property, a shape, and the head of a list
abbrev pub node : Term
node = example (codes "node")

abbrev pub other : Term
other = example (codes "other")

abbrev pub word : Term
word = example (codes "q")

abbrev pub inner : Term
inner = example (codes "S")

abbrev pub head : Term
head = Blank 1 1

abbrev pub typed : List ℕ → List ℕ → Term
typed lexical name = Literal lexical (codes "http://www.w3.org/2001/XMLSchema#" ++ name) None

-- the IRI of a datatype of XML Schema
abbrev pub xsd : List ℕ → Term
xsd name = Iri (codes "http://www.w3.org/2001/XMLSchema#" ++ name)

abbrev pub decimal : List ℕ → Term
decimal lexical = typed lexical (codes "decimal")

abbrev pub tagged : List ℕ → List ℕ → Term
tagged lexical tag = Literal lexical (codes "http://www.w3.org/1999/02/22-rdf-syntax-ns#langString") (Some tag)

-- surroundings in which these are the value nodes, these the values of properties at the focus node, and these
-- the shapes that give a result at each node
abbrev pub around : (Term → Type 0) → (Term → Term → Type 0) → (Term → Type 0) → Surroundings
around IsNode HasValue IsBroken = record {
  value_node = IsNode;
  instance = λ v c. ⊥;
  focus_value = HasValue;
  triple = λ v p o. (v ≡ node) × (p ≡ word) × (o ≡ other);
  row = λ m v r. IsBroken m × (r ≡ row_about components.Class m v word v);
}

-- one value node and nothing else
abbrev pub at_node : Term → Surroundings
at_node x = around (λ v. v ≡ x) (λ p w. ⊥) (λ m. ⊥)

-- two of them
abbrev pub at_nodes : Term → Term → Surroundings
at_nodes x y = around (λ v. (v ≡ x) ⊎ (v ≡ y)) (λ p w. ⊥) (λ m. ⊥)

-- one value node, and the focus node has this value of the property
abbrev pub with_value : Term → Term → Surroundings
with_value x y = around (λ v. v ≡ x) (λ p w. (p ≡ word) × (w ≡ y)) (λ m. ⊥)

-- one value node, at which the shape gives a result
abbrev pub with_broken : Term → Surroundings
with_broken m = around (λ v. v ≡ node) (λ p w. ⊥) (λ k. k ≡ m)

-- what a shape says that has the value q of this property alone, the head of a list with these members
abbrev pub saying : ShapeProperty → Term → List Term → Reading
saying p q ms = record {
  path = λ x. ⊥;
  is_node_shape = ⊥;
  has = λ o v. (o ≡ p) × (v ≡ q);
  has_list = λ o h l. (o ≡ p) × (h ≡ q) × (l ≡ ms);
  sibling = λ k. ⊥;
  allowed = λ k. ⊥;
  is_class = ⊥;
}

-- a qualified count with the qualified value shape
abbrev pub qualified : ShapeProperty → Term → Reading
qualified p q = record (saying p q []) { has = λ o v. ((o ≡ p) × (v ≡ q)) ⊎ ((o ≡ ShQualifiedValueShape) × (v ≡ inner)) }

-- the component gives the result of its one parameter's value
abbrev pub Gives : Component → Surroundings → Term → List Term → ResultRow → Type 0
Gives c t q ms r = ComponentRow c t (saying (parameter_of c) q ms) shape focus r

-- about the value node x; about none
abbrev pub GivesAt : Component → Surroundings → Term → List Term → Term → Type 0
GivesAt c t q ms x = Gives c t q ms (row_about c shape focus q x)

abbrev pub GivesAlone : Component → Surroundings → Term → Type 0
GivesAlone c t q = Gives c t q [] (row_without_value c shape focus q)

-- about x, beside y
abbrev pub GivesBeside : Component → Term → Term → Type 0
GivesBeside c x y = Gives c (with_value x y) word [] (record { source_shape = shape; focus_node = focus; component = c; parameter = Some word; about = Some x; value = Some x; other = Some y })

-- it gives none
abbrev pub GivesNone : Component → Surroundings → Term → List Term → Type 0
GivesNone c t q ms = (r : ResultRow) → Gives c t q ms r → ⊥

-- 4.1: no instance of the class, and an ill-typed literal of the datatype
abbrev pub TypeExamples : Type 0
TypeExamples =
    GivesAt components.Class (at_node node) word [] node
    × GivesAt components.Datatype (at_node (integer (codes "x"))) (xsd (codes "integer")) [] (integer (codes "x"))
    × GivesNone components.Datatype (at_node (integer (codes "1"))) (xsd (codes "integer")) []

-- 4.2.2: one value node where none is allowed
abbrev pub CountExamples : Type 0
CountExamples = GivesAlone components.MaxCount (at_node node) (integer (codes "0"))

-- 4.3: the decimals 5. and .5, and what doesn't compare with 5
abbrev pub BoundExamples : Type 0
BoundExamples =
    GivesAt components.MinExclusive (at_node (decimal (codes "5."))) (integer (codes "5")) [] (decimal (codes "5."))
    × GivesAt components.MinInclusive (at_node (decimal (codes ".5"))) (integer (codes "5")) [] (decimal (codes ".5"))
    × GivesNone components.MinInclusive (at_node (decimal (codes "5."))) (integer (codes "5")) []
    × GivesAt components.MaxExclusive (at_node (decimal (codes "5."))) (integer (codes "5")) [] (decimal (codes "5."))
    × GivesNone components.MaxExclusive (at_node (decimal (codes ".5"))) (integer (codes "5")) []
    × GivesAt components.MaxInclusive (at_node node) (integer (codes "5")) [] node

-- 4.4.1 to 4.4.3: a text of one character, one of two, and a blank node
abbrev pub TextExamples : Type 0
TextExamples =
    GivesAt components.MinLength (at_node (typed (codes "x") (codes "string"))) (integer (codes "2")) [] (typed (codes "x") (codes "string"))
    × GivesAt components.MaxLength (at_node (typed (codes "xy") (codes "string"))) (integer (codes "1")) [] (typed (codes "xy") (codes "string"))
    × GivesNone components.MaxLength (at_node (typed (codes "x") (codes "string"))) (integer (codes "1")) []
    × GivesAt components.MinLength (at_node head) (integer (codes "0")) [] head
    × GivesAt components.Pattern (at_node head) (typed (codes "^a+$") (codes "string")) [] head

-- 4.4.4 and 4.4.5: no language that is asked for, one that is, and two texts of one language
abbrev pub LanguageExamples : Type 0
LanguageExamples =
    GivesAt components.LanguageIn (at_node (tagged (codes "x") (codes "de"))) head (typed (codes "en") (codes "string") ∷ []) (tagged (codes "x") (codes "de"))
    × GivesNone components.LanguageIn (at_node (tagged (codes "x") (codes "en-us"))) head (typed (codes "en") (codes "string") ∷ [])
    × Gives components.UniqueLang (at_nodes (tagged (codes "x") (codes "en")) (tagged (codes "yy") (codes "en"))) true_literal []
    (record { source_shape = shape; focus_node = focus; component = components.UniqueLang; parameter = Some true_literal; about = None; value = None; other = Some (string_literal (codes "en")) })

-- 4.5: a value of the property that is no value node; one that is; 5 beside 3, and 5 beside 5
abbrev pub PairExamples : Type 0
PairExamples =
    GivesAt components.Equals (with_value node other) word [] other
    × GivesAt components.Equals (with_value node other) word [] node
    × GivesAt components.Disjoint (with_value node node) word [] node
    × GivesBeside components.LessThan (integer (codes "5")) (integer (codes "5"))
    × GivesBeside components.LessThanOrEquals (integer (codes "5")) (integer (codes "3"))
    × GivesNone components.LessThanOrEquals (with_value (integer (codes "5")) (integer (codes "5"))) word []

-- 4.6 and 4.7.1: a value node that conforms to a shape, twice in a list, and one that doesn't
abbrev pub LogicExamples : Type 0
LogicExamples =
    GivesAt components.Not (at_node node) inner [] node
    × GivesAt components.And (with_broken inner) head (other ∷ inner ∷ []) node
    × GivesAt components.Or (with_broken inner) head (inner ∷ []) node
    × GivesAt components.Xone (at_node node) head (inner ∷ inner ∷ []) node
    × GivesNone components.Xone (with_broken inner) head (inner ∷ other ∷ [])
    × GivesAt components.Node (with_broken inner) inner [] node

-- 4.7.3: one qualified value node, where two are asked for and where none is allowed
abbrev pub QualifiedExamples : Type 0
QualifiedExamples =
    ComponentRow components.QualifiedMinCount (at_node node) (qualified ShQualifiedMinCount (integer (codes "2"))) shape focus (row_without_value components.QualifiedMinCount shape focus (integer (codes "2")))
    × ComponentRow components.QualifiedMaxCount (at_node node) (qualified ShQualifiedMaxCount (integer (codes "0"))) shape focus (row_without_value components.QualifiedMaxCount shape focus (integer (codes "0")))

-- 4.8: a triple whose predicate isn't allowed, a value that isn't there, and one that no list has
abbrev pub OtherExamples : Type 0
OtherExamples =
    Gives components.Closed (at_node node) true_literal []
    (record { source_shape = shape; focus_node = focus; component = components.Closed; parameter = Some true_literal; about = Some node; value = Some other; other = Some word })
    × GivesAlone components.HasValue (at_node node) other
    × GivesAt components.In (at_node (decimal (codes "5."))) head (decimal (codes "5.0") ∷ []) (decimal (codes "5."))
    × GivesNone components.In (at_node node) head (node ∷ [])

-- 4.7.2: the result of a property shape at a value node
abbrev pub PropertyExample : Type 0
PropertyExample = PropertyRow (with_broken inner) (saying ShProperty inner []) (row_about components.Class inner node word node)
