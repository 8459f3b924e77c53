use Rattle.rdf_model.specs.Numbers.{graph_of, term_at}
use Rattle.shape_model.specs.Validation.{At}
use Rattle.result_evidence.proofs.LeastAims.{among_results}
use Rattle.result_evidence.proofs.aims.gives_row.Goals as goal

pub returns : goal.returns
returns g c s own of at =
    let e = c.args.evaluation.now in
    among_results (At (graph_of e.terms e.ids) s own.node (term_at e.terms c.args.focus)) c.in_ok-rows.rows.items c.as_slice.result.now c.args.row.now c.has_row.result c.has_row.ensures c.as_slice.ensures.value
    (c.in_ok-rows.ensures.rows s own of.stand at of.acyclic of.shallow)
