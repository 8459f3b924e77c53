use Rattle.shape_syntax.proofs.Loops.{from_none}
use Rattle.shape_sizes.specs.References.{IsRecursive}
use Rattle.shape_rules.proofs.least.first_rows.Goals as goal
use Rattle.shape_rules.specs.declared.rule_row.RuleRow.{RuleRow}
use Rattle.shape_rules.specs.Broken.{BreaksAt}
use Rattle.shape_rules.proofs.LeastRows.{with_least}
use Rattle.shape_rules.proofs.NodeRows.{all_broken}

pub least_recursive-requires : goal.least_recursive-requires
least_recursive-requires c = rw c.indexed-indexed.ensures.value c.survey-survey.ensures.references

pub returns : goal.returns
returns c =
    let s = c.args.graph.now in
    let same = c.indexed-indexed.ensures.value in
    with_least (λ (r : RuleRow). BreaksAt s r.node r) (IsRecursive s) 38 c.push_all_rows.new.rows c.push_found.new.rows c.in_ok-found.found
    (λ r.
    let all = all_broken s c.in_ok-nodes.nodes (rw same at (rw c.as_slice.ensures at c.in_ok-nodes.ensures)) r in
    let rows = from_none (BreaksAt s) c.in_ok-nodes.nodes c.push_all_rows.new.rows (rw c.new-rows.ensures at (rw c.as_slice-2.ensures at c.in_ok-push_all_rows.ensures)) r in
    (λ h. all.0 (rows.0 h), λ h. rows.1 (all.1 h)))
    (rw same at c.in_ok-found.ensures) c.in_ok-push_found.ensures
