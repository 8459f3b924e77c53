use Rattle.data_graph.proofs.Differing.{found_numbered, numbers_differing}
use Rattle.data_graph.proofs.changed.ids_differing.Goals as goal

pub returns-clause-differing : goal.returns-clause-differing
returns-clause-differing c =
    numbers_differing c.args.names.now.terms c.recall_numbering.ensures c.args.index.now c.args.later.now c.args.changes.now c.requires.index c.recall_ascending.ensures c.requires.changes c.requires.later c.in_ok-found.found.items c.in_ok-found.ensures

pub returns-clause-numbered : goal.returns-clause-numbered
returns-clause-numbered c =
    found_numbered c.args.names.now.terms c.recall_numbering.ensures c.args.index.now c.args.later.now c.args.changes.now c.requires.index c.recall_ascending.ensures c.requires.changes c.requires.later c.in_ok-found.found.items c.in_ok-found.ensures
