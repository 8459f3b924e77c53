use Rattle.std.proofs.Common.{subst}
use Rattle.shape_reader.specs.Declarations.{Declaration, IsDeclaration}
use Rattle.shape_reader.proofs.shape_node.ShapeNode.recall.Goals as goal

pub returns : goal.returns
returns c = subst (λ (d : Declaration). IsDeclaration d) c.self.view_is (record { well_formed = c.self.invariant.well_formed; nodes = c.self.invariant.survey.shapes.ascending; shape = c.self.invariant.shape })
