-- Whether all blocks of a text show their results, and which is the first that doesn't.
use Rattle.std.specs.Prelude.{◌≡◌, ◌≢◌, ◌+◌, ℕ, List, [], ◌++◌, length}
use Rattle.std.specs.List.{AllByRecursion}
use Rattle.rdf_model.specs.declared.triple.Triple.{Triple}
use Rattle.evidence_blocks.specs.declared.block.Block.{Block}
use Rattle.evidence_blocks.specs.BlockText.{numbered_block, numbered_blocks}
use Rattle.evidence_blocks.specs.Readable.{IsReadableBlock}
use Rattle.evidence_blocks.specs.Shown.{IsShown}

-- the block is of the format and shows its result
abbrev pub IsValid : List Triple → List Triple → Block → Type 0
IsValid g s b = IsReadableBlock b × IsShown g s b

-- the whole text is that of n such blocks, numbered from 1
pub record IsVerified (g s : List Triple) (text : List ℕ) (n : ℕ) : Type 0 where
  pub blocks : List Block
  pub count : length blocks ≡ n
  pub valid : AllByRecursion (IsValid g s) blocks
  pub written : text ≡ numbered_blocks 1 blocks

-- behind such blocks more follows, which doesn't begin with block i, the next one
pub record IsWrongAt (g s : List Triple) (text : List ℕ) (i : ℕ) : Type 0 where
  pub before : List Block
  pub rest : List ℕ
  pub number : i ≡ length before + 1
  pub valid : AllByRecursion (IsValid g s) before
  pub written : text ≡ numbered_blocks 1 before ++ rest
  pub more : rest ≢ []
  pub wrong : (b : Block) (behind : List ℕ) → IsValid g s b → rest ≢ numbered_block i b ++ behind
