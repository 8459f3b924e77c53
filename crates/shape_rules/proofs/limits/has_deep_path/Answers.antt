use Rattle.std.proofs.Common.{refl, arith}
use Rattle.rdf_model.specs.declared.triple.Triple.{Triple}
use Rattle.shape_syntax.specs.PathDepth.{IsDeep}
use Rattle.shape_syntax.proofs.Scans.{read_in, none_more, in_all}
use Rattle.shape_sizes.proofs.LookWeights.{value_may_be}
use Rattle.shape_rules.proofs.limits.has_deep_path.Goals as goal

pub is_deep-requires-clause-node : goal.is_deep-requires-clause-node
is_deep-requires-clause-node c =
    value_may_be c.args.graph.now c.args.node.now c.triple-item.result.object
    (c.property_values_of-triple-items.ensures.each c.triple-item.result (read_in c.property_values_of-triple-items.result.now c.loop-triple.triple-index c.triple-item.result (omega arith) c.triple-item.is))

pub returns-then-is_deep : goal.returns-then-is_deep
returns-then-is_deep c = (
  λ h. (
    c.triple-item.result.object,
    c.property_values_of-triple-items.ensures.each c.triple-item.result (read_in c.property_values_of-triple-items.result.now c.loop-triple.triple-index c.triple-item.result (omega arith) c.triple-item.is),
    c.is_deep.ensures.0 c.if-is_deep.true,
  ),
  λ i. refl,
)

pub loop-triple-preserved : goal.loop-triple-preserved
loop-triple-preserved c =
    none_more (λ (t : Triple). IsDeep c.args.graph.now t.object 256) c.property_values_of-triple-items.result.now c.loop-triple.triple-index c.triple-item.result (omega arith) c.triple-item.is c.loop-triple.invariant (λ d. let k = c.is_deep.ensures.1 d in cc)

pub returns : goal.returns
returns c = (
  λ h. cc,
  λ i. absurd (c.loop-triple.invariant _ (in_all c.property_values_of-triple-items.result.now c.loop-triple.triple-index (omega arith) _ (c.property_values_of-triple-items.ensures.all i.0 i.1)) i.2),
)
