use Rattle.std.proofs.Common.{ℕ, List, ◌<◌, length, IfOk, sym, subst}
use Rattle.std.specs.List.{All}
use Rattle.std.proofs.lemmas.Result.{IfOk-weaker}
use Rattle.result_evidence.specs.AimedRows.{AreAimsOf, FindsAtSome}
use Rattle.result_evidence.specs.Standing.{ForShape}
use Rattle.result_evidence.proofs.Aimed.{at_targets}
use Rattle.result_evidence.proofs.gathering.aimed_of_shape.Goals as goal

pub aimed_at_nodes-requires-clause-nodes : goal.aimed_at_nodes-requires-clause-nodes
aimed_at_nodes-requires-clause-nodes g c = subst (λ (ns : List ℕ). All (λ n. n < length c.args.evaluation.now.terms) ns) (sym c.as_slice.ensures.value) c.in_ok-nodes.ensures.numbers

pub returns : goal.returns
returns g c =
    let e = c.args.evaluation.now in
    let place = c.args.place in
    IfOk-weaker c.aimed_at_nodes.result (λ found. ForShape e.terms e.shapes place (λ s shape. FindsAtSome e.terms e.ids s shape place c.in_ok-nodes.nodes.items found.items))
    (λ found. ForShape e.terms e.shapes place (λ s shape. AreAimsOf e.terms e.ids s shape place found.items))
    (λ found h s own of at. at_targets e.terms e.ids s own.node place c.in_ok-nodes.nodes.items found.items (c.in_ok-nodes.ensures.targets s own of.stand at) (h s own of at))
    (subst (λ (ns : List ℕ). IfOk c.aimed_at_nodes.result (λ found. ForShape e.terms e.shapes place (λ s shape. FindsAtSome e.terms e.ids s shape place ns found.items))) c.as_slice.ensures.value c.aimed_at_nodes.ensures)
