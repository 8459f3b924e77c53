use Rattle.std.proofs.Common.{ℕ, List, ◌<◌, length, IfOk, sym, subst}
use Rattle.std.specs.List.{All}
use Rattle.std.proofs.lemmas.Result.{IfOk-weaker}
use Rattle.rdf_model.specs.Numbers.{graph_of}
use Rattle.shape_model.specs.Validation.{At}
use Rattle.result_evidence.specs.Aims.{IsLeastTarget}
use Rattle.result_evidence.specs.Standing.{ForShape, IsLeastIn}
use Rattle.result_evidence.proofs.LeastAims.{of_targets}
use Rattle.result_evidence.proofs.aims.least_target.Goals as goal

pub least_focus-requires-clause-nodes : goal.least_focus-requires-clause-nodes
least_focus-requires-clause-nodes g c = subst (λ (ns : List ℕ). All (λ n. n < length c.args.evaluation.now.terms) ns) (sym c.as_slice.ensures.value) c.in_ok-nodes.ensures.numbers

pub returns : goal.returns
returns g c =
    let e = c.args.evaluation.now in
    let row = c.args.row.now in
    IfOk-weaker c.least_focus.result (λ least. ForShape e.terms e.shapes c.args.place (λ s shape. IsLeastIn e.terms (λ f. At (graph_of e.terms e.ids) s shape f row) c.in_ok-nodes.nodes.items least))
    (λ least. ForShape e.terms e.shapes c.args.place (λ s shape. IsLeastTarget e.terms e.ids s row shape least))
    (λ least h s own of at. of_targets e.terms e.ids s row own.node c.in_ok-nodes.nodes.items (c.in_ok-nodes.ensures.targets s own of.stand at) least (h s own of at))
    (subst (λ (ns : List ℕ). IfOk c.least_focus.result (λ least. ForShape e.terms e.shapes c.args.place (λ s shape. IsLeastIn e.terms (λ f. At (graph_of e.terms e.ids) s shape f row) ns least))) c.as_slice.ensures.value c.least_focus.ensures)
