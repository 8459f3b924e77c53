-- Readings of a shape that agree as a validation asks: the readings of an active shape are the same, and those of any shape are
-- once one has the path of the other.
use Rattle.std.proofs.Common.{List, refl}
use Rattle.std.specs.Prelude.{IsTrue}
use Rattle.shape_model.specs.Readings.{IsDeactivated, Reading, SameReading}
use Rattle.shape_model.specs.Vocabulary.{ShDeactivated, true_literal}
use Rattle.shape_ast.specs.Readings.{ReadShape}
use Rattle.shape_ast.specs.Standing.{SameShape, shape_reading}

-- the reading with the path of the other
abbrev pub with_path : Reading → Reading → Reading
with_path y z = record y { path = z.path; is_node_shape = z.is_node_shape }

pub same_active : (y z : Reading) → SameShape y z → (IsDeactivated y → ⊥) → SameReading y z
same_active y z e active = record {
  path = λ p. e.path p (λ off. absurd (active off));
  is_node_shape = e.is_node_shape active;
  has = e.has;
  has_list = e.has_list;
  sibling = e.sibling;
  allowed = e.allowed;
  is_class = e.is_class;
}

pub same_but_path : (y z : Reading) → SameShape y z → SameReading (with_path y z) z
same_but_path y z e = record {
  path = λ p. (λ i. i, λ i. i);
  is_node_shape = (λ i. i, λ i. i);
  has = e.has;
  has_list = e.has_list;
  sibling = e.sibling;
  allowed = e.allowed;
  is_class = e.is_class;
}

-- a compiled shape that isn't deactivated says the same as the reading that it agrees with
pub same_on : (shapes : List ReadShape) (c : ReadShape) (y : Reading) → SameShape y (shape_reading shapes c) → (IsTrue c.is_deactivated → ⊥) → SameReading y (shape_reading shapes c)
same_on shapes c y e active = same_active y (shape_reading shapes c) e (λ d. active ((e.has ShDeactivated true_literal refl).0 d).0)
