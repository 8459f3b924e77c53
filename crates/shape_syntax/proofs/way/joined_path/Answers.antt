use Rattle.shape_syntax.proofs.PathParts.{sequence_made, alternative_made}
use Rattle.shape_syntax.proofs.way.joined_path.Goals as goal

pub returns-in-Sequence : goal.returns-in-Sequence
returns-in-Sequence c = rw c.in-Sequence.is (sequence_made c.in_ok-first.first c.args.first c.args.others c.in_ok-first.ensures.ok)

pub returns-in-Alternative : goal.returns-in-Alternative
returns-in-Alternative c = rw c.in-Alternative.is (alternative_made c.in_ok-first.first c.args.first c.args.others c.in_ok-first.ensures.ok)
