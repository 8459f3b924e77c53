use Rattle.evidence_laws.proofs.Holding as holding
use Rattle.evidence_laws.proofs.looks_alone_decide.Goals as goal

pub returns : goal.returns
returns c = holding.looks_alone_decide
