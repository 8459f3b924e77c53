use Rattle.store_laws.proofs.Verdicts.{VerdictAside-holds}
use Rattle.store_laws.proofs.verdict_aside.Goals as goal

pub returns : goal.returns
returns c = VerdictAside-holds
