use Rattle.std.proofs.Common.{refl, inl, inr}
use Rattle.shape_model.specs.Vocabulary.{rdfs_class}
use Rattle.shape_sizes.proofs.looks.implicit_looks.Goals as goal

pub returns-then-is_class : goal.returns-then-is_class
returns-then-is_class c =
    let is = rw c.as_slice.ensures at c.is_class.ensures in
    inl ((c.in_ok-classes.ensures rdfs_class).0 (is.0 c.if-is_class.true), refl)

pub returns : goal.returns
returns c =
    let is = rw c.as_slice.ensures at c.is_class.ensures in
    inr (λ h. let k = is.1 ((c.in_ok-classes.ensures rdfs_class).1 h) in cc, refl)
