use Rattle.std.proofs.Common.{IsTrue, codes, inl, inr, refl}
use Rattle.shape_model.specs.Vocabulary.{sh}
use Rattle.shape_properties.specs.Table.{role}
use Rattle.shape_properties.specs.Syntax.{makes_shape}
use Rattle.shape_properties.proofs.SomeValues.{some_value}
use Rattle.shape_properties.proofs.shapes.says_shape.Goals as goal

pub returns-then-has_making : goal.returns-then-has_making
returns-then-has_making c =
    let some = some_value c.args.graph.now c.triples_of.result.now c.args.node.now (λ n p v. IsTrue (makes_shape (role p))) c.triples_of.ensures.members in
    (λ h. inr (inr (some.0 (c.has_making.ensures.0 c.if-has_making.true))), λ h. refl)

pub returns : goal.returns
returns c =
    let some = some_value c.args.graph.now c.triples_of.result.now c.args.node.now (λ n p v. IsTrue (makes_shape (role p))) c.triples_of.ensures.members in
    let typed = rw c.as_slice.ensures at c.is_typed.ensures in (
      λ h. elim (typed.0 h) [
        | inl m ↦ inl ((c.in_ok-classes.ensures (sh (codes "NodeShape"))).0 m)
        | inr m ↦ inr (inl ((c.in_ok-classes.ensures (sh (codes "PropertyShape"))).0 m))
      ],
      λ h. elim h [
        | inl i ↦ typed.1 (inl ((c.in_ok-classes.ensures (sh (codes "NodeShape"))).1 i))
        | inr (inl i) ↦ typed.1 (inr ((c.in_ok-classes.ensures (sh (codes "PropertyShape"))).1 i))
        | inr (inr m) ↦ absurd (let k = c.has_making.ensures.1 (some.1 m) in cc)
      ],
    )
