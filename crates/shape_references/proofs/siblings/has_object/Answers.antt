use Rattle.std.proofs.Common.{◌≡◌, refl, arith}
use Rattle.rdf_model.specs.declared.triple.Triple.{Triple}
use Rattle.shape_syntax.proofs.Scans.{read_in, none_more, in_all}
use Rattle.shape_references.proofs.siblings.has_object.Goals as goal

pub returns-then-is_same : goal.returns-then-is_same
returns-then-is_same c = (
  λ h. (c.triple-item.result, read_in c.args.found.now c.loop-triple.triple-index c.triple-item.result (omega arith) c.triple-item.is, c.is_same.ensures.0 c.if-is_same.true),
  λ i. refl,
)

pub loop-triple-preserved : goal.loop-triple-preserved
loop-triple-preserved c = none_more (λ (t : Triple). t.object ≡ c.args.value.now) c.args.found.now c.loop-triple.triple-index c.triple-item.result (omega arith) c.triple-item.is c.loop-triple.invariant (λ h. let k = c.is_same.ensures.1 h in cc)

pub returns : goal.returns
returns c = (
  λ h. cc,
  λ i. absurd (c.loop-triple.invariant i.0 (in_all c.args.found.now c.loop-triple.triple-index (omega arith) i.0 i.1) i.2),
)
