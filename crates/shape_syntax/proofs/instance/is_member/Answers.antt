use Rattle.std.proofs.Common.{◌≡◌, refl, arith}
use Rattle.rdf_model.specs.declared.term.Term.{Term}
use Rattle.shape_syntax.proofs.Scans.{read_in, none_more, in_all, member_contains, equal_in}
use Rattle.shape_syntax.proofs.instance.is_member.Goals as goal

pub returns-then-is_same : goal.returns-then-is_same
returns-then-is_same c = (
  λ h. equal_in c.args.terms.now _ c.args.term.now (c.is_same.ensures.0 c.if-is_same.true) (read_in c.args.terms.now c.loop-other.other-index c.other-item.result (omega arith) c.other-item.is),
  λ i. refl,
)

pub loop-other-preserved : goal.loop-other-preserved
loop-other-preserved c =
    none_more (λ (other : Term). other ≡ c.args.term.now) c.args.terms.now c.loop-other.other-index c.other-item.result (omega arith) c.other-item.is c.loop-other.invariant (λ e. let k = c.is_same.ensures.1 e in cc)

pub returns : goal.returns
returns c = (
  λ h. cc,
  λ i. absurd (c.loop-other.invariant c.args.term.now (in_all c.args.terms.now c.loop-other.other-index (omega arith) c.args.term.now (member_contains c.args.terms.now c.args.term.now i)) refl),
)
