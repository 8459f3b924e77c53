-- Shapes as they are compiled, and what they say.
use Rattle.std.specs.Prelude.{◌≡◌, Bool, List, Option, Some, None, IsTrue}
use Rattle.std.specs.List.{Contains}
use Rattle.rdf_model.specs.declared.term.Term.{Term}
use Rattle.rdf_model.specs.declared.triple.Triple.{Triple}
use Rattle.shape_model.specs.Paths.{Path}
use Rattle.shape_model.specs.Readings.{Reading, SameReading, reading}
use Rattle.shape_model.specs.ShapeSyntax.{IsShape}
use Rattle.shape_model.specs.Vocabulary.{ShapeProperty}

-- a value of a property
pub record CompiledValue : Type 0 where
  pub property : ShapeProperty
  pub value : Term

-- a value of a property that is a list: its head and its members
pub record CompiledList : Type 0 where
  pub property : ShapeProperty
  pub head : Term
  pub members : List Term

pub record CompiledShape : Type 0 where
  pub path : Option Path
  pub values : List CompiledValue
  pub lists : List CompiledList
  pub siblings : List Term
  pub allowed : List Term
  pub is_class : Bool

-- what a compiled shape says
abbrev pub compiled_reading : CompiledShape → Reading
compiled_reading c = record {
  path = λ p. c.path ≡ Some p;
  is_node_shape = c.path ≡ None;
  has = λ p v. Contains c.values (record { property = p; value = v });
  has_list = λ p head members. Contains c.lists (record { property = p; head = head; members = members });
  sibling = Contains c.siblings;
  allowed = Contains c.allowed;
  is_class = IsTrue c.is_class;
}

-- a shape by its node
pub record CompiledEntry : Type 0 where
  pub shape : Term
  pub compiled : CompiledShape

-- the compiled shapes stand for the shapes graph: each says what the graph says of its node, and each shape is compiled
pub record StandsFor (entries : List CompiledEntry) (s : List Triple) : Type 0 where
  pub each : (e : CompiledEntry) → Contains entries e → SameReading (reading s e.shape) (compiled_reading e.compiled)
  pub all : (shape : Term) → IsShape s shape → (e : CompiledEntry) × Contains entries e × (e.shape ≡ shape)
