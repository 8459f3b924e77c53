use Rattle.evidence_laws.proofs.Holding as holding
use Rattle.evidence_laws.proofs.evidence_is_shown.Goals as goal

pub returns : goal.returns
returns c = holding.evidence_is_shown
