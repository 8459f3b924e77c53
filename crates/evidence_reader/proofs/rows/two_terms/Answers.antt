use Rattle.std.proofs.Common.{Option, subst, List, ℕ}
use Rattle.std.specs.Borrow.{Bor}
use Rattle.rdf_model.specs.declared.term.Term.{Term}
use Rattle.rdf_model.specs.NTriples.{term_text}
use Rattle.evidence_blocks.specs.Readable.{IsReadableTerm}
use Rattle.evidence_reader.specs.Finding.{Anything, Finds, marked_line}
use Rattle.evidence_reader.proofs.Splits.{both_found, first_missing, second_missing}
use Rattle.evidence_reader.proofs.rows.two_terms.Goals as goal

pub returns-in_default : goal.returns-in_default
returns-in_default c = first_missing IsReadableTerm IsReadableTerm (λ t. marked_line c.args.mark.now (term_text t)) (λ t. marked_line c.args.second_mark.now (term_text t)) Anything c.args.text.now (subst (λ (o : Option (Term × Bor (List ℕ))). Finds IsReadableTerm (λ t. marked_line c.args.mark.now (term_text t)) Anything c.args.text.now o) c.in_default.is c.in_ok-term.ensures.term)

pub returns-in-Some-2 : goal.returns-in-Some-2
returns-in-Some-2 c =
    both_found IsReadableTerm IsReadableTerm (λ t. marked_line c.args.mark.now (term_text t)) (λ t. marked_line c.args.second_mark.now (term_text t)) Anything c.args.text.now c.in-Some.term c.in-Some.behind (subst (λ (o : Option (Term × Bor (List ℕ))). Finds IsReadableTerm (λ t. marked_line c.args.mark.now (term_text t)) Anything c.args.text.now o) c.in-Some.is c.in_ok-term.ensures.term) c.in-Some-2.second c.in-Some-2.rest (subst (λ (o : Option (Term × Bor (List ℕ))). Finds IsReadableTerm (λ t. marked_line c.args.second_mark.now (term_text t)) Anything c.in-Some.behind.now o) c.in-Some-2.is c.in_ok-second.ensures.term)

pub returns-in-None : goal.returns-in-None
returns-in-None c =
    second_missing IsReadableTerm IsReadableTerm (λ t. marked_line c.args.mark.now (term_text t)) (λ t. marked_line c.args.second_mark.now (term_text t)) Anything c.args.text.now c.in-Some.term c.in-Some.behind (subst (λ (o : Option (Term × Bor (List ℕ))). Finds IsReadableTerm (λ t. marked_line c.args.mark.now (term_text t)) Anything c.args.text.now o) c.in-Some.is c.in_ok-term.ensures.term) (subst (λ (o : Option (Term × Bor (List ℕ))). Finds IsReadableTerm (λ t. marked_line c.args.second_mark.now (term_text t)) Anything c.in-Some.behind.now o) c.in-None.is c.in_ok-second.ensures.term)
