use Rattle.std.proofs.Common.{◌∙◌, Some, sym, ap, get_or}
use Rattle.shape_model.specs.declared.component.Component.{Component}
use Rattle.shape_model.specs.declared.component.Component.TheVariants as components
use Rattle.evidence_reader.specs.declared.components.TheConstants.{COMPONENTS}
use Rattle.evidence_reader.proofs.Numbered.{none_at_all, none_with, one_number}
use Rattle.evidence_reader.proofs.components.with_number.Goals as goal

pub returns-then-number : goal.returns-then-number
returns-then-number c = λ d e. ap (λ (x : Component). Some x) (one_number (get_or COMPONENTS c.loop-component.component-index components.Class) d (sym c.number.ensures ∙ c.if-number.true ∙ sym e))

pub loop-component-preserved : goal.loop-component-preserved
loop-component-preserved c = none_with c.args.number c.loop-component.component-index c.loop-component-test.true c.loop-component.invariant (λ e. c.if-number.false (c.number.ensures ∙ e))

pub returns : goal.returns
returns c = λ d e. absurd (none_at_all c.args.number c.loop-component.component-index c.loop-component-test.false c.loop-component.invariant d e)
