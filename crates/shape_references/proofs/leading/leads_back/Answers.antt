use Rattle.shape_references.proofs.leading.leads_back.Goals as goal

pub ask_all-requires-clause-nodes : goal.ask_all-requires-clause-nodes
ask_all-requires-clause-nodes c = rw c.in_ok-nodes.ensures c.requires.pending
