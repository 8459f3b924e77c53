use Rattle.commit_core.proofs.RecordedTriples.{HasCome}
use Rattle.commit_core.proofs.restoring.last_graph.Given as goal

abbrev pub invariant-loop-entry : goal.invariant-loop-entry
invariant-loop-entry l = HasCome l.named l.records l.entry-index l.graph l.rest
