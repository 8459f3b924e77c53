use Rattle.std.proofs.Common.{◌≡◌, ◌+◌, ◌*◌, ◌∙◌, ℕ, List, length, refl, ap, subst, arith}
use Rattle.rdf_model.specs.declared.term.Term.{Term}
use Rattle.shape_model.specs.Vocabulary.{true_literal}
use Rattle.reference_totals.specs.Totals.{SumBy, capped}
use Rattle.shape_properties.specs.declared.property.ShapeProperty.{ShapeProperty}
use Rattle.shape_properties.specs.declared.property.ShapeProperty.TheVariants as properties
use Rattle.shape_model.specs.Limits.{looks_limit}
use Rattle.shape_sizes.specs.Sizes.{HasPathLooks}
use Rattle.shape_sizes.proofs.OwnTriples.{own_counts, own_values}
use Rattle.shape_sizes.proofs.looks.own_looks.Goals as goal

own_sum : (m q p k e d l le z a b : ℕ) → q ≡ capped m p → a ≡ capped m (q + 2 * k) → b ≡ capped m (a + e + d + l + le) → capped m (b + z) ≡ capped m (p + 2 * k + e + d + l + le + z)
own_sum m q p k e d l le z a b f g h = omega arith

pub returns : goal.returns
returns c =
    let s = c.args.graph.now in
    let same = own_values s c.args.own.now c.args.node.now c.requires.members in
    let path = c.in_ok-path.ensures in
    let classes = c.in_ok-classes.ensures ∙ ap (λ (of : ShapeProperty → List Term). capped looks_limit (c.in_ok-path.path + 2 * length (of properties.Class))) same in
    let compared = c.in_ok-compared.ensures ∙ ap (λ (of : ShapeProperty → List Term). capped looks_limit (c.in_ok-classes.classes
    + length (of properties.Equals) + length (of properties.Disjoint) + length (of properties.LessThan) + length (of properties.LessThanOrEquals))) same in (
      _,
      (
        path.0,
        c.closed_looks.result,
        subst (λ (of : ShapeProperty → List Term). SumBy (HasPathLooks s) (of properties.Path) path.0) same path.1,
        own_counts s c.args.own.now c.args.node.now c.requires.members properties.Closed true_literal 1 c.closed_looks.result c.closed_looks.ensures,
        refl,
      ),
      c.capped_sum.ensures ∙ ap (λ (m : ℕ). capped m (c.in_ok-compared.compared + c.closed_looks.result)) c.most_looks.ensures.limit
          ∙ own_sum looks_limit c.in_ok-path.path path.0 _ _ _ _ _ c.closed_looks.result c.in_ok-classes.classes c.in_ok-compared.compared path.2 classes compared,
    )
