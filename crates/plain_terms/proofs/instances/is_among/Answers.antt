use Rattle.std.proofs.Common.{◌≡◌, refl, subst, arith}
use Rattle.std.specs.List.{Contains}
use Rattle.rdf_model.specs.declared.term.Term.{Term}
use Rattle.shape_syntax.proofs.Scans.{in_all, none_more, read_in}
use Rattle.plain_terms.proofs.instances.is_among.Goals as goal

pub returns-then-is_same : goal.returns-then-is_same
returns-then-is_same c = (
  λ t. subst (λ (x : Term). Contains c.args.terms.now x) (c.is_same.ensures.0 c.if-is_same.true) (read_in c.args.terms.now c.loop-other.other-index c.other-item.result (omega arith) c.other-item.is),
  λ h. refl,
)

pub loop-other-preserved : goal.loop-other-preserved
loop-other-preserved c =
    none_more (λ x. x ≡ c.args.term.now) c.args.terms.now c.loop-other.other-index c.other-item.result (omega arith) c.other-item.is c.loop-other.invariant
    (λ e. let k = c.is_same.ensures.1 e in cc (k, c.if-is_same.false))

pub returns : goal.returns
returns c = (λ t. cc, λ h. absurd (c.loop-other.invariant c.args.term.now (in_all c.args.terms.now c.loop-other.other-index (omega arith) c.args.term.now h) refl))
