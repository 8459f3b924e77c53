use Rattle.evidence_laws.proofs.Holding as holding
use Rattle.evidence_laws.proofs.shown_blocks_hold.Goals as goal

pub returns : goal.returns
returns c = holding.shown_blocks_hold
