use Rattle.file_laws.proofs.OneVerdict as laws
use Rattle.file_laws.proofs.explanations_are_verified.Goals as goal

pub returns : goal.returns
returns c = laws.explanations_are_verified
