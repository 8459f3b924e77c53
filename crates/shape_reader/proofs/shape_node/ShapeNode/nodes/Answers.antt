use Rattle.std.proofs.Common.{◌∙◌, ap}
use Rattle.shape_reader.specs.Declarations.{Declaration}
use Rattle.shape_reader.proofs.shape_node.ShapeNode.nodes.Goals as goal

pub returns : goal.returns
returns c = c.as_slice.ensures.value ∙ ap (λ (d : Declaration). d.nodes) c.self.view_is
