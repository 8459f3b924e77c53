use Rattle.evidence_reader.proofs.Splits.{no_space_left}
use Rattle.evidence_reader.proofs.looks.at_last_space.Goals as goal

pub returns : goal.returns
returns c = no_space_left c.args.line.now c.loop-rest.rest.now c.in_default.len_below c.loop-rest.invariant.1
