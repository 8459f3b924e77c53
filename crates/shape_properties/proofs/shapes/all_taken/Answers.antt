use Rattle.std.proofs.Common.{[], arith}
use Rattle.std.specs.Prelude.{◌↔◌}
use Rattle.std.specs.List.{Contains}
use Rattle.shape_syntax.specs.Gathering.{Gives}
use Rattle.rdf_model.specs.declared.term.Term.{Term}
use Rattle.shape_properties.specs.OfProperties.{TakenBy}
use Rattle.shape_syntax.proofs.Loops.{gathered_none, gathered_next, gathered_all, from_none}
use Rattle.shape_properties.proofs.shapes.all_taken.Goals as goal

pub loop-triple-init : goal.loop-triple-init
loop-triple-init c = rw c.new-nodes.ensures (gathered_none (TakenBy c.args.graph.now) c.as_slice-triple-items.result.now [])

pub loop-triple-preserved : goal.loop-triple-preserved
loop-triple-preserved c = gathered_next (TakenBy c.args.graph.now) c.as_slice-triple-items.result.now c.loop-triple.triple-index c.triple-item.result [] c.loop-triple.nodes c.push_taken.new.nodes (omega arith) c.triple-item.is c.loop-triple.invariant c.in_ok-push_taken.ensures

pub returns : goal.returns
returns c =
    let s = c.args.graph.now in
    let ts = c.as_slice-triple-items.result.now in
    let found : (n : Term) → Contains c.loop-triple.nodes n ↔ Gives (TakenBy s) ts n = from_none (TakenBy s) ts c.loop-triple.nodes (gathered_all (TakenBy s) ts c.loop-triple.triple-index [] c.loop-triple.nodes (omega arith) c.loop-triple.invariant) in
    rw c.as_slice-triple-items.ensures at found
