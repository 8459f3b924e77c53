-- What follows from a block that shows its result.
use Rattle.std.specs.Prelude.{List}
use Rattle.rdf_model.specs.declared.triple.Triple.{Triple}
use Rattle.shape_model.specs.Agreement.{Agree}
use Rattle.shape_model.specs.Validation.{IsResult}
use Rattle.evidence_blocks.specs.declared.block.Block.{Block}
use Rattle.evidence_blocks.specs.Blocks.{Gives, IsEvidence, looks_in}
use Rattle.evidence_blocks.specs.Shown.{IsShown}

-- What a block shows is a result of the graph.
abbrev pub ShownBlocksHold : Type 0
ShownBlocksHold = (g s : List Triple) (b : Block) → IsShown g s b → Gives g s b.row b.shape b.focus × IsResult g s b.row

-- Evidence of a result shows it.
abbrev pub EvidenceIsShown : Type 0
EvidenceIsShown = (g s : List Triple) (b : Block) → IsEvidence g s b → IsShown g s b

-- A block that shows its result in one graph shows it in each that has the same triples at its looks.
abbrev pub LooksAloneDecide : Type 0
LooksAloneDecide = (g h s : List Triple) (b : Block) → IsShown g s b → Agree g h (looks_in b.looks) → IsResult h s b.row
