use Rattle.std.proofs.Common.{◌∙◌}
use Rattle.shape_reader.proofs.Causes.{cause_of}
use Rattle.shape_reader.proofs.Requests.{asked_cause}
use Rattle.shape_reader.proofs.shape.pattern_at.Goals as goal

pub returns-in-Err-clause-answer : goal.returns-in-Err-clause-answer
returns-in-Err-clause-answer g c = cause_of c.args.shape.now.graph c.args.shape.now.node c.in_ok-copy.copy (g.M.Maker.refused c.args.maker.now) (g.M.Maker.refused c.pattern_of.new.maker) c.in-Err.fault c.pattern_fault.result (c.in_ok-copy.ensures.cases ∙ c.node.ensures) c.in-Err.ensures.answer c.pattern_fault.ensures

pub returns-in-Err-clause-asked : goal.returns-in-Err-clause-asked
returns-in-Err-clause-asked g c = asked_cause c.args.shape.now.graph c.args.shape.now.node c.in_ok-copy.copy (g.M.Maker.asked c.args.maker.now) (g.M.Maker.asked c.pattern_of.new.maker) c.in-Err.fault c.pattern_fault.result (c.in_ok-copy.ensures.cases ∙ c.node.ensures) c.in-Err.ensures.asked c.pattern_fault.ensures
