use Rattle.std.proofs.Common.{◌≡◌, List, None, sym, subst}
use Rattle.std.specs.Prelude.{◌⊎◌}
use Rattle.collections.specs.Listings.{IsListing}
use Rattle.rdf_model.specs.declared.term.Term.{Term}
use Rattle.rdf_model.specs.Terms.{term_cmp}
use Rattle.shape_properties.specs.Syntax.{IsShape}
use Rattle.shape_sizes.specs.References.{HasLongChain}
use Rattle.shape_syntax.proofs.Loops.{from_none}
use Rattle.shape_rules.specs.declared.rule_row.RuleRow.{RuleRow}
use Rattle.shape_rules.specs.Rows.{row}
use Rattle.shape_rules.specs.Steps.{IsLimitRow, MeasureRow}
use Rattle.shape_rules.proofs.LeastRows.{have_as, with_least}
use Rattle.shape_rules.proofs.Measures.{all_measured, limit_row}
use Rattle.shape_rules.proofs.limits.limit_rows.Goals as goal

pub least_with_long_chain-requires : goal.least_with_long_chain-requires
least_with_long_chain-requires c = rw c.indexed-indexed.ensures.value c.survey-survey.ensures.references

pub push_all_measure_rows-requires-clause-nodes : goal.push_all_measure_rows-requires-clause-nodes
push_all_measure_rows-requires-clause-nodes c = subst (λ (ns : List Term). IsListing term_cmp (IsShape c.args.graph.now) ns) (sym c.as_slice.ensures.value) c.survey-survey.ensures.shapes

pub returns : goal.returns
returns c =
    let s = c.args.graph.now in
    let nodes = c.survey-survey.result.now.shapes.items in
    have_as (λ (r : RuleRow). MeasureRow s r.node r ⊎ (HasLongChain s r.node × (r ≡ row r.node 41 None))) (IsLimitRow s) c.push_found.new.rows (limit_row s)
    (with_least (λ (r : RuleRow). MeasureRow s r.node r) (HasLongChain s) 41 c.push_all_measure_rows.new.rows c.push_found.new.rows c.in_ok-found.found
    (λ r.
    let all = all_measured s nodes c.survey-survey.ensures.shapes.members r in
    let rows = from_none (MeasureRow s) nodes c.push_all_measure_rows.new.rows (rw c.new-rows.ensures at (rw c.as_slice.ensures.value at c.in_ok-push_all_measure_rows.ensures)) r in
    (λ h. all.0 (rows.0 h), λ h. rows.1 (all.1 h)))
    (rw c.indexed-indexed.ensures.value at c.in_ok-found.ensures) c.in_ok-push_found.ensures)
