use Rattle.std.proofs.Common.{◌≡◌, ◌∙◌, ap}
use Rattle.std.proofs.lemmas.Result.{IfOk-weaker}
use Rattle.triple_index.specs.Changes.{after_ids}
use Rattle.data_graph.specs.DataGraphs.{KeepsIndex}
use Rattle.data_graph.proofs.Changing.{index_after}
use Rattle.data_graph.proofs.numbering.index_after.Goals as goal

pub returns : goal.returns
returns c =
    let terms = c.args.names.now.terms in
    let ids = c.args.index.now in
    let net = c.args.net.now in
    let changes = c.in_ok-changes.changes.items in
    IfOk-weaker c.set_after.result (λ next. next ≡ after_ids ids c.deref.result.now) (KeepsIndex terms ids net)
    (λ next e g a x. index_after terms changes net ids next g c.recall_numbering.ensures c.in_ok-changes.ensures.0 c.in_ok-changes.ensures.1 (e ∙ ap (after_ids ids) c.deref.ensures.value) c.recall_ascending.ensures a x) c.set_after.ensures
