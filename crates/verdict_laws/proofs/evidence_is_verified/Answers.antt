use Rattle.verdict_laws.proofs.Evidenced as laws
use Rattle.verdict_laws.proofs.evidence_is_verified.Goals as goal

pub returns : goal.returns
returns c = laws.evidence_is_verified
