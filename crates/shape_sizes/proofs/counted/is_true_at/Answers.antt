use Rattle.std.proofs.Common.{◌≡◌, refl, subst, arith}
use Rattle.rdf_model.specs.declared.term.Term.{Term}
use Rattle.rdf_model.specs.declared.triple.Triple.{Triple}
use Rattle.shape_model.specs.Vocabulary.{true_literal}
use Rattle.shape_properties.specs.Syntax.{HasProperty}
use Rattle.shape_syntax.proofs.Scans.{read_in, none_more, in_all}
use Rattle.shape_sizes.proofs.counted.is_true_at.Goals as goal

pub returns-then-is_true : goal.returns-then-is_true
returns-then-is_true c = (
  λ h. subst (λ (v : Term). HasProperty c.args.graph.now c.args.node.now c.args.property v) (c.is_true.ensures.0 c.if-is_true.true)
      (c.property_values-triple-items.ensures.each c.triple-item.result (read_in c.property_values-triple-items.result.now c.loop-triple.triple-index c.triple-item.result (omega arith) c.triple-item.is)),
  λ i. refl,
)

pub loop-triple-preserved : goal.loop-triple-preserved
loop-triple-preserved c =
    none_more (λ (t : Triple). t.object ≡ true_literal) c.property_values-triple-items.result.now c.loop-triple.triple-index c.triple-item.result (omega arith) c.triple-item.is c.loop-triple.invariant (λ d. let k = c.is_true.ensures.1 d in cc)

pub returns : goal.returns
returns c = (
  λ h. cc,
  λ i. absurd (c.loop-triple.invariant _ (in_all c.property_values-triple-items.result.now c.loop-triple.triple-index (omega arith) _ (c.property_values-triple-items.ensures.all true_literal i)) refl),
)
