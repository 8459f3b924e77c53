use Rattle.snapshot_store.proofs.Looking.{number_result}
use Rattle.snapshot_store.proofs.looks.number_of.Goals as goal

pub returns : goal.returns
returns c = number_result c.args.names.now.terms c.args.term.now c.recall_numbering.ensures c.id.result c.id.ensures
