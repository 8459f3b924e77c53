use Rattle.verdict_laws.proofs.Apart as laws
use Rattle.verdict_laws.proofs.verdicts_stay_apart.Goals as goal

pub returns : goal.returns
returns c = laws.verdicts_stay_apart
