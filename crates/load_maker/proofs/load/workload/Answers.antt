use Rattle.std.proofs.Common.{string_bytes}
use Rattle.load_maker.specs.Workload.{own_lines, shapes_lines}
use Rattle.load_maker.proofs.Growing.{one_more}
use Rattle.load_maker.proofs.load.workload.Goals as goal

pub loop-before-preserved : goal.loop-before-preserved
loop-before-preserved c = one_more (own_lines c.args.n c.args.session) shapes_lines c.loop-before.before (string_bytes c.loop-before.text) (string_bytes c.push_own.new.text) c.loop-before.invariant (c.in_ok-push_own.ensures)
