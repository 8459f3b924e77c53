use Rattle.std.proofs.Common.{◌≡◌, ◌∙◌, List, IfOk, ap, map, subst}
use Rattle.std.proofs.lemmas.Result.{IfOk-weaker}
use Rattle.rdf_model.specs.declared.term.Term.{Term}
use Rattle.rdf_model.specs.Numbers.{term_at}
use Rattle.shape_model.specs.declared.result_row.ResultRow.{ResultRow}
use Rattle.result_evidence.specs.AimedRows.{FindsAt, aimed_at}
use Rattle.result_evidence.specs.Standing.{ForShape}
use Rattle.result_evidence.proofs.Aimed.{at_node}
use Rattle.result_evidence.proofs.gathering.aimed_at_node.Goals as goal

pub returns : goal.returns
returns g c =
    let e = c.args.evaluation.now in
    let place = c.args.place in
    let node = c.args.node in
    let rows = c.in_ok-rows.rows.items in
    let is : c.named.result.now ≡ term_at e.terms node = c.named.ensures ∙ ap (λ (ts : List Term). term_at ts node) c.requires.names in
    IfOk-weaker c.aimed_each.result (λ found. found.items ≡ map (aimed_at place (term_at e.terms node) node) rows)
    (λ found. ForShape e.terms e.shapes place (λ s shape. FindsAt e.terms e.ids s shape place node found.items))
    (λ found is s own of at. at_node e.terms e.ids s own.node place node rows found.items is (c.in_ok-rows.ensures.rows s own of.stand at of.acyclic of.shallow))
    (subst (λ (p : List ResultRow × Term). IfOk c.aimed_each.result (λ found. found.items ≡ map (aimed_at place p.1 node) p.0)) (λ i. (c.as_slice.ensures.value i, is i)) c.aimed_each.ensures)
