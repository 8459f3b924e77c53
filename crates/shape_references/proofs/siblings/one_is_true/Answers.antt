use Rattle.std.proofs.Common.{◌≡◌, refl, arith}
use Rattle.rdf_model.specs.declared.triple.Triple.{Triple}
use Rattle.shape_model.specs.Vocabulary.{true_literal}
use Rattle.shape_syntax.proofs.Scans.{read_in, none_more, in_all}
use Rattle.shape_references.proofs.siblings.one_is_true.Goals as goal

pub returns-then-is_true : goal.returns-then-is_true
returns-then-is_true c = (
  λ h. (c.triple-item.result, read_in c.args.found.now c.loop-triple.triple-index c.triple-item.result (omega arith) c.triple-item.is, c.is_true.ensures.0 c.if-is_true.true),
  λ i. refl,
)

pub loop-triple-preserved : goal.loop-triple-preserved
loop-triple-preserved c = none_more (λ (t : Triple). t.object ≡ true_literal) c.args.found.now c.loop-triple.triple-index c.triple-item.result (omega arith) c.triple-item.is c.loop-triple.invariant (λ h. let k = c.is_true.ensures.1 h in cc)

pub returns : goal.returns
returns c = (
  λ h. cc,
  λ i. absurd (c.loop-triple.invariant i.0 (in_all c.args.found.now c.loop-triple.triple-index (omega arith) i.0 i.1) i.2),
)
