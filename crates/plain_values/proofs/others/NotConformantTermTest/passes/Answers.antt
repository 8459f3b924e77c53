use Rattle.shape_syntax.proofs.Loops.{pathless}
use Rattle.plain_values.specs.Tests.{Conforming}
use Rattle.plain_values.proofs.others.NotConformantTermTest.passes.Goals as goal

pub returns : goal.returns
returns c = pathless c.conforms.result (Conforming c.args.self.now.told.now c.args.self.now.shape.now c.args.term.now) c.conforms.ensures
