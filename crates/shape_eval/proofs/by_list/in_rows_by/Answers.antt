use Rattle.std.proofs.Common.{IfOk, List, map}
use Rattle.std.proofs.lemmas.Result.{IfOk-weaker}
use Rattle.rdf_model.specs.Numbers.{term_at}
use Rattle.shape_model.specs.declared.component.Component.TheVariants as components
use Rattle.shape_model.specs.Components.{RowsOf, row_of}
use Rattle.component_rows.specs.Listed.{ListsRows, at_nodes, with_list}
use Rattle.component_rows.specs.Nodes.{HasNode}
use Rattle.component_rows.proofs.Collecting.{lists_same}
use Rattle.shape_eval.proofs.Texts.{in_same, sorted_nodes}
use Rattle.shape_eval.proofs.by_list.in_rows_by.Goals as goal

pub in_list-requires : goal.in_list-requires
in_list-requires g c = sorted_nodes c.args.site.now.terms c.args.members.now c.args.ascending.now c.requires.members c.requires.ascending

pub returns : goal.returns
returns g c =
    let terms = c.args.site.now.terms in
    let f = term_at terms c.args.site.now.focus in
    let q = term_at terms c.args.site.now.parameter in
    let t = at_nodes (HasNode terms c.args.site.now.values) in
    let row = row_of components.In c.args.site.now.source f q in
    let sorted = c.args.ascending.now in
    IfOk-weaker c.in_list.result
    (λ rows. ListsRows components.In t (with_list (map (term_at terms) sorted)) c.args.site.now.source f q rows.items)
    (λ rows. ListsRows components.In t (with_list (map (term_at terms) c.args.members.now)) c.args.site.now.source f q rows.items)
    (λ rows h. lists_same (RowsOf components.In t (with_list (map (term_at terms) sorted)) q row) (RowsOf components.In t (with_list (map (term_at terms) c.args.members.now)) q row) rows.items
    (λ r. in_same t terms sorted c.args.members.now c.requires.ascending.members q row r)
    h)
    c.in_list.ensures
