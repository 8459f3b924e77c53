use Rattle.std.proofs.Common.{◌∙◌, append_assoc}
use Rattle.load_maker.specs.Workload.{type_lines}
use Rattle.load_maker.proofs.load.push_type.Goals as goal

pub returns : goal.returns
unfolding type_lines
returns c = c.in_ok-write.ensures.bytes ∙ simp append_assoc
