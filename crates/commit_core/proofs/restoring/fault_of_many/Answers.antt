use Rattle.commit_core.proofs.RecordedTriples.{all_stand, misfit_fault, no_triples}
use Rattle.commit_core.proofs.restoring.fault_of_many.Goals as goal

pub last_graph-requires-clause-empty : goal.last_graph-requires-clause-empty
last_graph-requires-clause-empty c = no_triples _ c.args.records.now c.in-Ok.named c.in-Ok.ensures.named c.graph.result.now c.graph.ensures

pub last_graph-requires-clause-numbers : goal.last_graph-requires-clause-numbers
last_graph-requires-clause-numbers c = all_stand _ c.args.records.now c.in-Ok.named c.in-Ok.ensures.named c.graph.result.now c.graph.ensures c.as_slice.result.now c.as_slice.ensures

pub returns : goal.returns
returns c = λ limits lt. misfit_fault limits c.args.records.now c.in-Err.fault c.in-Err.ensures
