use Rattle.file_laws.proofs.OneVerdict as laws
use Rattle.file_laws.proofs.verdicts_are_one.Goals as goal

pub returns : goal.returns
returns c = laws.verdicts_are_one
