use Rattle.std.proofs.Common.{Option, codes, subst, List, ℕ}
use Rattle.std.specs.Borrow.{Bor}
use Rattle.rdf_model.specs.declared.term.Term.{Term}
use Rattle.shape_model.specs.declared.result_row.ResultRow.{ResultRow}
use Rattle.evidence_blocks.specs.BlockText.{row_text}
use Rattle.evidence_blocks.specs.Readable.{IsReadableRow}
use Rattle.evidence_reader.specs.Finding.{Anything, Finds, FollowsRow}
use Rattle.evidence_reader.specs.RowLines.{AreReadable, two_lines}
use Rattle.evidence_reader.proofs.RowTexts.{block_found, no_aim, no_row_there}
use Rattle.evidence_reader.proofs.blocks.block_lines.Goals as goal

pub returns-in_default : goal.returns-in_default
returns-in_default c = no_aim c.args.text.now (subst (λ (o : Option ((Term × Term) × Bor (List ℕ))). Finds AreReadable (two_lines (codes "shape ") (codes "at ")) Anything c.args.text.now o) c.in_default.is c.in_ok-aim.ensures)

pub returns-in_default-2 : goal.returns-in_default-2
returns-in_default-2 c = no_row_there c.args.text.now c.in-Some.aim c.in-Some.behind (subst (λ (o : Option ((Term × Term) × Bor (List ℕ))). Finds AreReadable (two_lines (codes "shape ") (codes "at ")) Anything c.args.text.now o) c.in-Some.is c.in_ok-aim.ensures) (subst (λ (o : Option (ResultRow × Bor (List ℕ))). Finds IsReadableRow row_text FollowsRow c.in-Some.behind.now o) c.in_default-2.is c.in_ok-row.ensures)

pub returns : goal.returns
returns c =
    block_found c.args.text.now c.in-Some.aim c.in-Some.behind (subst (λ (o : Option ((Term × Term) × Bor (List ℕ))). Finds AreReadable (two_lines (codes "shape ") (codes "at ")) Anything c.args.text.now o) c.in-Some.is c.in_ok-aim.ensures) c.in-Some-2.row c.in-Some-2.behind c.in_ok-looks.looks c.in_ok-looks.ensures.0 (subst (λ (o : Option (ResultRow × Bor (List ℕ))). Finds IsReadableRow row_text FollowsRow c.in-Some.behind.now o) c.in-Some-2.is c.in_ok-row.ensures) c.in_ok-looks.ensures.1
