use Rattle.std.proofs.Common.{[], arith}
use Rattle.std.specs.Prelude.{◌↔◌}
use Rattle.std.specs.List.{Contains}
use Rattle.shape_syntax.specs.Gathering.{Gives}
use Rattle.rdf_model.specs.declared.term.Term.{Term}
use Rattle.shape_syntax.proofs.Loops.{gathered_none, gathered_next, gathered_all, from_none}
use Rattle.shape_sizes.proofs.PathPlaces.{IsPathValueOf, values_found}
use Rattle.shape_sizes.proofs.path_looks.path_values.Goals as goal

pub loop-triple-init : goal.loop-triple-init
loop-triple-init c = rw c.new-nodes.ensures (gathered_none IsPathValueOf c.as_slice-triple-items.result.now [])

pub loop-triple-preserved : goal.loop-triple-preserved
loop-triple-preserved c = gathered_next IsPathValueOf c.as_slice-triple-items.result.now c.loop-triple.triple-index c.triple-item.result [] c.loop-triple.nodes c.push_path_value.new.nodes (omega arith) c.triple-item.is c.loop-triple.invariant c.in_ok-push_path_value.ensures

pub returns : goal.returns
returns c =
    let ts = c.as_slice-triple-items.result.now in
    let found : (n : Term) → Contains c.loop-triple.nodes n ↔ Gives IsPathValueOf ts n = from_none IsPathValueOf ts c.loop-triple.nodes (gathered_all IsPathValueOf ts c.loop-triple.triple-index [] c.loop-triple.nodes (omega arith) c.loop-triple.invariant) in
    values_found c.args.graph.now c.loop-triple.nodes c.in_ok-sorted.sorted.items (rw c.as_slice-triple-items.ensures at found) (rw c.into_vec.ensures at c.in_ok-sorted.ensures)
