use Rattle.std.proofs.Common.{Option, subst, List, ℕ}
use Rattle.std.specs.Borrow.{Bor}
use Rattle.rdf_model.specs.declared.term.Term.{Term}
use Rattle.shape_model.specs.declared.component.Component.{Component}
use Rattle.evidence_reader.specs.Finding.{Anything, Finds}
use Rattle.evidence_reader.specs.RowLines.{IsReadableHead, head_text}
use Rattle.evidence_reader.proofs.RowTexts.{no_row, row_found}
use Rattle.evidence_reader.proofs.rows.row_lines.Goals as goal

pub returns-in_default : goal.returns-in_default
returns-in_default c = no_row c.args.text.now (subst (λ (o : Option (((Term × Term) × Component) × Bor (List ℕ))). Finds IsReadableHead head_text Anything c.args.text.now o) c.in_default.is c.in_ok-head.ensures)

pub returns : goal.returns
returns c =
    row_found c.args.text.now c.in-Some.head c.in-Some.behind c.in_ok-row.rest c.in_ok-row.row (subst (λ (o : Option (((Term × Term) × Component) × Bor (List ℕ))). Finds IsReadableHead head_text Anything c.args.text.now o) c.in-Some.is c.in_ok-head.ensures) c.in_ok-row.ensures
