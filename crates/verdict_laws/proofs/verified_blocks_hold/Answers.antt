use Rattle.verdict_laws.proofs.Apart as laws
use Rattle.verdict_laws.proofs.verified_blocks_hold.Goals as goal

pub returns : goal.returns
returns c = laws.verified_blocks_hold
