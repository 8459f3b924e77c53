use Rattle.std.proofs.Common.{◌≡◌, Some, refl, arith}
use Rattle.literal_order.specs.Texts.{string_value}
use Rattle.rdf_model.specs.declared.term.Term.{Term}
use Rattle.shape_syntax.proofs.Scans.{in_all, none_more, read_in}
use Rattle.plain_values.proofs.matching.is_text_of_some.Goals as goal

pub returns-then-is_text_of : goal.returns-then-is_text_of
returns-then-is_text_of c = (
  λ t. (c.term-item.result, read_in c.args.terms.now c.loop-term.term-index c.term-item.result (omega arith) c.term-item.is, c.is_text_of.ensures.0 c.if-is_text_of.true),
  λ h. refl,
)

pub loop-term-preserved : goal.loop-term-preserved
loop-term-preserved c =
    none_more (λ (q : Term). string_value q ≡ Some c.args.text.now) c.args.terms.now c.loop-term.term-index c.term-item.result (omega arith) c.term-item.is c.loop-term.invariant (λ h. let k = c.is_text_of.ensures.1 h in cc (k, c.if-is_text_of.false))

pub returns : goal.returns
returns c = (λ t. cc, λ h. absurd (c.loop-term.invariant h.0 (in_all c.args.terms.now c.loop-term.term-index (omega arith) h.0 h.1) h.2))
