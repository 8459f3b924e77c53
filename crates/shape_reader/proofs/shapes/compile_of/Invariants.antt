use Rattle.std.proofs.Common.{◌≡◌, take}
use Rattle.shape_reader.specs.Asked.{AsksAmong}
use Rattle.shape_reader.specs.Parts.{AreShapes}
use Rattle.shape_reader.proofs.shapes.compile_of.Given as goal

abbrev pub invariant-loop-node : goal.invariant-loop-node
invariant-loop-node g l = record {
  shapes : AreShapes l.graph l.nodes (take l.node-index l.nodes) l.shapes;
  refused : g.M.Maker.refused l.maker ≡ g.M.Maker.refused l.fn.maker;
  asked : AsksAmong l.graph (take l.node-index l.nodes) (g.M.Maker.asked l.fn.maker) (g.M.Maker.asked l.maker);
}
