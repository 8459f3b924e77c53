use Rattle.record_text.proofs.Sections.{no_graph, only_graph}
use Rattle.record_text.proofs.reading.read_graph.Goals as goal

pub returns-in-Ok : goal.returns-in-Ok
returns-in-Ok c = only_graph c.args.text.now c.in-Ok.triples c.in-Ok.ensures

pub returns-in-Err-Refusal : goal.returns-in-Err-Refusal
returns-in-Err-Refusal c = no_graph c.args.text.now _ _ _ c.in-Err-Refusal.field-0-is c.in-Err-Refusal.ensures
