use Rattle.std.proofs.Common.{take}
use Rattle.shape_syntax.specs.Gathering.{HasGathered}
use Rattle.shape_properties.specs.OfProperties.{IsShapeAt}
use Rattle.shape_properties.proofs.shapes.push_shapes.Given as goal

abbrev pub invariant-loop-node : goal.invariant-loop-node
invariant-loop-node l = HasGathered (IsShapeAt l.graph) (take l.node-index l.found) l.fn.nodes l.nodes
