use Rattle.verdict_laws.proofs.OneBlock as laws
use Rattle.verdict_laws.proofs.blocks_have_own_texts.Goals as goal

pub returns : goal.returns
returns c = laws.same_block
