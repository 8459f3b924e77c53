use Rattle.ntriples_text.proofs.EarlyEnd.{ends_early}
use Rattle.ntriples_text.proofs.laws.ends_early.Goals as goal

pub returns : goal.returns
returns c = ends_early
