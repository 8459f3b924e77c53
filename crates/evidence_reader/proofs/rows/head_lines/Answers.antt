use Rattle.std.proofs.Common.{Option, codes, subst, List, ℕ}
use Rattle.std.specs.Borrow.{Bor}
use Rattle.rdf_model.specs.declared.term.Term.{Term}
use Rattle.shape_model.specs.declared.component.Component.{Component}
use Rattle.evidence_reader.specs.Finding.{Anything, Finds}
use Rattle.evidence_reader.specs.RowLines.{AreReadable, component_line, two_lines}
use Rattle.evidence_reader.proofs.Splits.{both_found, first_missing, second_missing}
use Rattle.evidence_reader.proofs.rows.head_lines.Goals as goal

pub returns-in_default : goal.returns-in_default
returns-in_default c = first_missing AreReadable (λ _. Unit {0}) (two_lines (codes "source ") (codes "focus ")) component_line Anything c.args.text.now (subst (λ (o : Option ((Term × Term) × Bor (List ℕ))). Finds AreReadable (two_lines (codes "source ") (codes "focus ")) Anything c.args.text.now o) c.in_default.is c.in_ok-terms.ensures)

pub returns-in-Some-component_of_line : goal.returns-in-Some-component_of_line
returns-in-Some-component_of_line c =
    both_found AreReadable (λ _. Unit {0}) (two_lines (codes "source ") (codes "focus ")) component_line Anything c.args.text.now c.in-Some.terms c.in-Some.behind (subst (λ (o : Option ((Term × Term) × Bor (List ℕ))). Finds AreReadable (two_lines (codes "source ") (codes "focus ")) Anything c.args.text.now o) c.in-Some.is c.in_ok-terms.ensures) c.in-Some-component_of_line.component c.in-Some-component_of_line.rest (subst (λ (o : Option (Component × Bor (List ℕ))). Finds (λ _. Unit {0}) component_line Anything c.in-Some.behind.now o) c.in-Some-component_of_line.is c.component_of_line.ensures)

pub returns-in-None : goal.returns-in-None
returns-in-None c =
    second_missing AreReadable (λ _. Unit {0}) (two_lines (codes "source ") (codes "focus ")) component_line Anything c.args.text.now c.in-Some.terms c.in-Some.behind (subst (λ (o : Option ((Term × Term) × Bor (List ℕ))). Finds AreReadable (two_lines (codes "source ") (codes "focus ")) Anything c.args.text.now o) c.in-Some.is c.in_ok-terms.ensures) (subst (λ (o : Option (Component × Bor (List ℕ))). Finds (λ _. Unit {0}) component_line Anything c.in-Some.behind.now o) c.in-None.is c.component_of_line.ensures)
