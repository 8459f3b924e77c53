use Rattle.turtle_reader.proofs.NodesWithin.{gives_readable}
use Rattle.evidence_tests.proofs.blocks.assert_explained.Goals as goal

pub shapes_of-requires : goal.shapes_of-requires
shapes_of-requires g c = (gives_readable _ 2 1 _ c.in-Ok-read.shapes_triples c.in-Ok-read.ensures.reads).2
