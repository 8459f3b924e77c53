use Rattle.std.proofs.Common.{◌≡◌, refl, arith}
use Rattle.rdf_model.specs.declared.triple.Triple.{Triple}
use Rattle.shape_syntax.proofs.Scans.{read_in, none_more, in_all}
use Rattle.shape_syntax.proofs.steps.is_more_said.Goals as goal

pub returns-then-not-says_same : goal.returns-then-not-says_same
returns-then-not-says_same c = (
  λ h. (c.triple-item.result, read_in c.args.found.now c.loop-triple.triple-index c.triple-item.result (omega arith) c.triple-item.is, λ e. let k = c.says_same.ensures.1 e in cc),
  λ i. refl,
)

pub loop-triple-preserved : goal.loop-triple-preserved
loop-triple-preserved c =
    none_more (λ (t : Triple). (t.predicate ≡ c.args.first.now.predicate) × (t.object ≡ c.args.first.now.object) → ⊥) c.args.found.now c.loop-triple.triple-index c.triple-item.result (omega arith) c.triple-item.is c.loop-triple.invariant (λ apart. apart (c.says_same.ensures.0 cc))

pub returns : goal.returns
returns c = (
  λ h. cc,
  λ i. absurd (c.loop-triple.invariant i.0 (in_all c.args.found.now c.loop-triple.triple-index (omega arith) i.0 i.1) i.2),
)
