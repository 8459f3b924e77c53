use Rattle.std.proofs.Common.{◌∙◌, List, sym, subst}
use Rattle.rdf_model.specs.Numbers.{term_at}
use Rattle.shape_model.specs.Components.{RowsOf}
use Rattle.shape_model.specs.declared.component.Component.TheVariants as components
use Rattle.shape_model.specs.declared.result_row.ResultRow.{ResultRow}
use Rattle.component_rows.specs.Listed.{Lists, with_allowed}
use Rattle.component_rows.specs.Nodes.{HasNode}
use Rattle.component_rows.specs.Sites.{site_row}
use Rattle.component_rows.proofs.Collecting.{lists_sorted}
use Rattle.value_constraints.specs.Closing.{in_graph}
use Rattle.value_constraints.proofs.Closings.{all_closed, none_closed}
use Rattle.value_constraints.proofs.closed_shape.closed.Goals as goal

pub returns-then-not-is_true : goal.returns-then-not-is_true
returns-then-not-is_true g c =
    let s = c.args.site.now in
    let ids = g.R.Triples.triples c.args.graph.now in
    let row = site_row components.Closed s in
    let q = term_at s.terms s.parameter in
    subst (λ (rows : List ResultRow). Lists (RowsOf components.Closed (in_graph s.terms ids s.values) (with_allowed (HasNode s.terms c.args.allowed.now)) q row) rows) (sym c.new.ensures.items)
    (none_closed s.terms c.recall.ensures.numbering ids c.requires.graph row c.args.allowed.now s.values c.requires.allowed c.recall.ensures.nodes q
    (λ is. let told = c.is_true.ensures.1 (c.parameter_term.ensures ∙ is) in let not = c.if-not-is_true.true in cc (told, not)))

pub returns : goal.returns
returns g c =
    let s = c.args.site.now in
    let ids = g.R.Triples.triples c.args.graph.now in
    let row = site_row components.Closed s in
    let q = term_at s.terms s.parameter in
    let rows = c.in_ok-rows.rows.items in
    lists_sorted (RowsOf components.Closed (in_graph s.terms ids s.values) (with_allowed (HasNode s.terms c.args.allowed.now)) q row) rows c.in_ok-sorted_once.field-0.items
    (all_closed s.terms c.recall.ensures.numbering ids c.requires.graph row c.args.allowed.now s.values c.requires.allowed c.recall.ensures.nodes q
    (sym c.parameter_term.ensures ∙ c.is_true.ensures.0 c.if-not-is_true.false) rows c.in_ok-rows.ensures)
    c.in_ok-sorted_once.ensures
