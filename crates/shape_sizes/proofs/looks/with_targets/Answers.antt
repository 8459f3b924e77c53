use Rattle.std.proofs.Common.{◌≡◌, ◌+◌, ◌*◌, ◌∙◌, ℕ, List, length, refl, ap, arith}
use Rattle.rdf_model.specs.declared.term.Term.{Term}
use Rattle.reference_totals.specs.Totals.{capped}
use Rattle.shape_properties.specs.declared.property.ShapeProperty.{ShapeProperty}
use Rattle.shape_properties.specs.declared.property.ShapeProperty.TheVariants as properties
use Rattle.shape_model.specs.Limits.{looks_limit}
use Rattle.shape_sizes.proofs.OwnTriples.{own_values}
use Rattle.shape_sizes.proofs.looks.with_targets.Goals as goal

target_sum : (m s k i x y a b c z : ℕ) → a ≡ capped m (s + 2 * k) → b ≡ capped m (a + i) → c ≡ capped m (b + x) → z ≡ capped m (c + y) → z ≡ capped m (s + (2 * k + i + x + y))
target_sum m s k i x y a b c z f g h j = omega arith

pub returns : goal.returns
returns c =
    let same = own_values c.args.graph.now c.triples_of-own.result.now c.args.node.now c.triples_of-own.ensures.members in
    let classes = c.in_ok-classes.ensures ∙ ap (λ (of : ShapeProperty → List Term). capped looks_limit (c.args.sum + 2 * length (of properties.TargetClass))) same in
    let subjects = c.in_ok-subjects.ensures ∙ ap (λ (of : ShapeProperty → List Term). capped looks_limit (c.capped_sum-both.result + length (of properties.TargetSubjectsOf))) same in
    let all = c.in_ok-all.ensures ∙ ap (λ (of : ShapeProperty → List Term). capped looks_limit (c.in_ok-subjects.subjects + length (of properties.TargetObjectsOf))) same in
    let both = c.capped_sum-both.ensures ∙ ap (λ (m : ℕ). capped m (c.in_ok-classes.classes + c.in_ok-implicit.implicit)) c.most_looks.ensures.limit in (
      _,
      (c.in_ok-implicit.implicit, c.in_ok-implicit.ensures, refl),
      target_sum looks_limit c.args.sum _ c.in_ok-implicit.implicit _ _ c.in_ok-classes.classes c.capped_sum-both.result c.in_ok-subjects.subjects c.in_ok-all.all classes both subjects all,
    )
