use Rattle.std.proofs.Common.{Option, subst, codes, refl}
use Rattle.std.specs.Fmt.{decimal}
use Rattle.shape_model.specs.declared.component.Component.{Component}
use Rattle.shape_model.specs.Rows.{component_number}
use Rattle.evidence_reader.specs.Finding.{FindsAlone}
use Rattle.evidence_reader.specs.RowLines.{component_line}
use Rattle.evidence_reader.proofs.Numbered.{number_no_end}
use Rattle.evidence_reader.proofs.Splits.{found_in_line, none_in_line, not_in_line}
use Rattle.evidence_reader.proofs.rows.component_of_line.Goals as goal

pub returns-in_default : goal.returns-in_default
returns-in_default c = none_in_line (λ _. Unit {0}) component_line (λ d. decimal (component_number d)) (codes "component ") c.args.text.now (λ d r. refl) (λ d r. number_no_end d) c.in_default.ensures.line

pub returns-in-Some-component_of : goal.returns-in-Some-component_of
returns-in-Some-component_of c =
    found_in_line (λ _. Unit {0}) component_line (λ d. decimal (component_number d)) (codes "component ") c.args.text.now (λ d r. refl) (λ d r. number_no_end d) c.in-Some.line c.in-Some.rest c.in-Some.ensures.line c.in-Some-component_of.component
    (subst (λ (o : Option Component). FindsAlone (λ _. Unit {0}) (λ d. decimal (component_number d)) c.in-Some.line.now o) c.in-Some-component_of.is c.component_of.ensures)

pub returns-in-None : goal.returns-in-None
returns-in-None c =
    not_in_line (λ _. Unit {0}) component_line (λ d. decimal (component_number d)) (codes "component ") c.args.text.now (λ d r. refl) (λ d r. number_no_end d) c.in-Some.line c.in-Some.rest c.in-Some.ensures.line
    (subst (λ (o : Option Component). FindsAlone (λ _. Unit {0}) (λ d. decimal (component_number d)) c.in-Some.line.now o) c.in-None.is c.component_of.ensures)
