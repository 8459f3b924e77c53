-- What follows from the definitions of verdicts.
use Rattle.std.specs.Prelude.{◌≡◌, ℕ, List, ◌++◌, length}
use Rattle.std.specs.List.{All, AllByRecursion, Contains}
use Rattle.rdf_model.specs.declared.triple.Triple.{Triple}
use Rattle.ntriples_text.specs.Laws.{IsReadable, IsStored}
use Rattle.shape_model.specs.Agreement.{Agree}
use Rattle.shape_model.specs.Validation.{IsResult}
use Rattle.shape_rules.specs.Broken.{IsWellFormed}
use Rattle.evidence_blocks.specs.declared.block.Block.{Block}
use Rattle.evidence_blocks.specs.Blocks.{IsEvidence, looks_in}
use Rattle.evidence_blocks.specs.BlockText.{block_text, numbered_blocks}
use Rattle.evidence_blocks.specs.Readable.{IsReadableBlock}
use Rattle.evidence_blocks.specs.Verdicts.{IsVerified, IsWrongAt}

-- Blocks of the format that begin one text are one, and the same follows them.
abbrev pub BlocksHaveOwnTexts : Type 0
BlocksHaveOwnTexts = (b c : Block) (x y : List ℕ) → IsReadableBlock b → IsReadableBlock c → block_text b ++ x ≡ block_text c ++ y → (b ≡ c) × (x ≡ y)

-- A text that is verified has one number of blocks, and is wrong nowhere; one that is wrong is so at one block.
abbrev pub VerdictsStayApart : Type 0
VerdictsStayApart = (g s : List Triple) (text : List ℕ) (n m i j : ℕ)
    → (IsVerified g s text n → IsVerified g s text m → n ≡ m) × (IsVerified g s text n → IsWrongAt g s text i → ⊥) × (IsWrongAt g s text i → IsWrongAt g s text j → i ≡ j)

-- Each block of a verified text shows a result of the graph, and so it is in each graph that has the same triples at its looks.
abbrev pub VerifiedBlocksHold : Type 0
VerifiedBlocksHold = (g s : List Triple) (text : List ℕ) (n : ℕ) → IsVerified g s text n
    → (blocks : List Block) × (length blocks ≡ n) × (text ≡ numbered_blocks 1 blocks) × ((b : Block) → Contains blocks b → IsResult g s b.row × ((h : List Triple) → Agree g h (looks_in b.looks) → IsResult h s b.row))

-- each triple can be read again, with the labels of the store
abbrev pub AreReadable : List Triple → Type 0
AreReadable g = AllByRecursion (IsReadable IsStored) g

-- The text of evidence of results is verified, where each triple of the data graph and of the shapes graph can be read and the
-- shapes graph is well-formed (SHACL 3.4.2).
abbrev pub EvidenceIsVerified : Type 0
EvidenceIsVerified = (g s : List Triple) (blocks : List Block) → AreReadable g → AreReadable s → IsWellFormed s → All (IsEvidence g s) blocks → IsVerified g s (numbered_blocks 1 blocks) (length blocks)
