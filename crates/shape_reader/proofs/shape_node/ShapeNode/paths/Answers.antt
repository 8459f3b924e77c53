use Rattle.std.proofs.Common.{subst}
use Rattle.shape_syntax.specs.PathNodes.{ArePathNodes}
use Rattle.shape_reader.specs.Declarations.{Declaration}
use Rattle.shape_reader.proofs.shape_node.ShapeNode.paths.Goals as goal

pub returns : goal.returns
returns c = subst (λ (d : Declaration). ArePathNodes d.graph c.self.inside.survey.now.paths.keys) c.self.view_is c.self.invariant.survey.paths
