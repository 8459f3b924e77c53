use Rattle.shape_reader.proofs.Assembled.{assembles}
use Rattle.shape_reader.proofs.shape.assembled.Goals as goal

pub returns : goal.returns
returns c = assembles c.args.shape.now.graph c.recall.ensures.well_formed c.args.shape.now.nodes c.args.shape.now.node c.recall.ensures.shape c.args.path c.args.pattern
    c.args.parts.0.0 c.args.parts.0.1.0.0 c.args.parts.0.1.0.1 c.args.parts.0.1.1.0 c.args.parts.0.1.1.1 c.args.parts.1.0.0 c.args.parts.1.0.1 c.args.parts.1.1.0 c.args.parts.1.1.1
    c.args.is_deactivated c.qualified_of.result c.requires.path c.requires.pattern c.requires.parts c.requires.off c.qualified_of.ensures
