-- Which block begins a text.
use Rattle.std.specs.Prelude.{◌≡◌, ◌≢◌, ℕ, List, ◌++◌, Option, Some, None, MatchOption}
use Rattle.std.specs.Borrow.{Bor}
use Rattle.evidence_blocks.specs.declared.block.Block.{Block}
use Rattle.evidence_blocks.specs.BlockText.{block_text, numbered_block}
use Rattle.evidence_blocks.specs.Readable.{IsReadableBlock}

-- the text begins with the block of this number that was found, and with no other, and the rest follows; or with none
abbrev pub IsNextBlock : ℕ → List ℕ → Option (Block × Bor (List ℕ)) → Type 0
IsNextBlock n text None = (b : Block) (behind : List ℕ) → IsReadableBlock b → text ≢ numbered_block n b ++ behind
IsNextBlock n text (Some r) = IsReadableBlock r.0 × (text ≡ numbered_block n r.0 ++ r.1.now)
    × ((b : Block) (behind : List ℕ) → IsReadableBlock b → text ≡ numbered_block n b ++ behind → r.0 ≡ b)

-- what was found is a block, and is whatever block begins the text
pub record FindsBlock (text : List ℕ) (found : Option Block) : Type 0 where
  pub sound : MatchOption found (Unit {0}) IsReadableBlock
  pub every : (b : Block) (behind : List ℕ) → IsReadableBlock b → text ≡ block_text b ++ behind → found ≡ Some b
