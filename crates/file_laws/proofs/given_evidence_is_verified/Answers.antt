use Rattle.file_laws.proofs.Given as laws
use Rattle.file_laws.proofs.given_evidence_is_verified.Goals as goal

pub returns : goal.returns
returns c = laws.given_evidence_is_verified
