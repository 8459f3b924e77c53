use Rattle.std.proofs.Common.{Option, subst, List, ℕ}
use Rattle.std.specs.Prelude.{IsNone}
use Rattle.std.specs.Borrow.{Bor}
use Rattle.rdf_model.specs.declared.term.Term.{Term}
use Rattle.rdf_model.specs.NTriples.{term_text}
use Rattle.evidence_blocks.specs.Readable.{IsReadableTerm}
use Rattle.evidence_reader.specs.Finding.{Anything, Finds, marked_line}
use Rattle.evidence_reader.proofs.RowTexts.{option_found, option_missing}
use Rattle.evidence_reader.proofs.rows.optional_line.Goals as goal

pub returns-in-Some : goal.returns-in-Some
returns-in-Some c =
    option_found c.args.mark.now c.args.text.now c.in-Some.term c.in-Some.rest (subst (λ (o : Option (Term × Bor (List ℕ))). Finds IsReadableTerm (λ t. marked_line c.args.mark.now (term_text t)) Anything c.args.text.now o) c.in-Some.is c.in_ok-term.ensures.term)
    (λ h. let bad = subst (λ (o : Option (Term × Bor (List ℕ))). IsNone o) c.in-Some.is (c.in_ok-term.ensures.none h) in cc)

pub returns-in-None : goal.returns-in-None
returns-in-None c = option_missing c.args.mark.now c.args.text.now (subst (λ (o : Option (Term × Bor (List ℕ))). Finds IsReadableTerm (λ t. marked_line c.args.mark.now (term_text t)) Anything c.args.text.now o) c.in-None.is c.in_ok-term.ensures.term)
