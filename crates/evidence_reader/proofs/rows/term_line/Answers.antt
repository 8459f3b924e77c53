use Rattle.std.proofs.Common.{Option, subst, refl}
use Rattle.rdf_model.specs.declared.term.Term.{Term}
use Rattle.rdf_model.specs.NTriples.{term_text}
use Rattle.evidence_blocks.specs.Readable.{IsReadableTerm}
use Rattle.evidence_reader.specs.Finding.{FindsAlone, marked_line}
use Rattle.evidence_reader.proofs.Spelled.{term_has_no_end}
use Rattle.evidence_reader.proofs.Splits.{found_in_line, none_in_line, not_in_line}
use Rattle.evidence_reader.proofs.rows.term_line.Goals as goal

pub returns-in_default-clause-term : goal.returns-in_default-clause-term
returns-in_default-clause-term c = none_in_line IsReadableTerm (λ t. marked_line c.args.mark.now (term_text t)) term_text c.args.mark.now c.args.text.now (λ t r. refl) term_has_no_end c.in_default.ensures.line

pub returns-in-Some-2-clause-term : goal.returns-in-Some-2-clause-term
returns-in-Some-2-clause-term c =
    found_in_line IsReadableTerm (λ t. marked_line c.args.mark.now (term_text t)) term_text c.args.mark.now c.args.text.now (λ t r. refl) term_has_no_end c.in-Some.line c.in-Some.rest c.in-Some.ensures.line c.in-Some-2.term
    (subst (λ (o : Option Term). FindsAlone IsReadableTerm term_text c.in-Some.line.now o) c.in-Some-2.is c.in_ok-term.ensures)

pub returns-in-None-clause-term : goal.returns-in-None-clause-term
returns-in-None-clause-term c =
    not_in_line IsReadableTerm (λ t. marked_line c.args.mark.now (term_text t)) term_text c.args.mark.now c.args.text.now (λ t r. refl) term_has_no_end c.in-Some.line c.in-Some.rest c.in-Some.ensures.line
    (subst (λ (o : Option Term). FindsAlone IsReadableTerm term_text c.in-Some.line.now o) c.in-None.is c.in_ok-term.ensures)
