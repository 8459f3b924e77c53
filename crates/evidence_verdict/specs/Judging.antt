-- What a verdict asks of a block. Not seen by any caller.
use Rattle.std.specs.Prelude.{◌≡◌, ◌≢◌, ℕ, List, ◌++◌, Option, MatchOption}
use Rattle.std.specs.List.{Contains}
use Rattle.std.specs.Borrow.{Bor}
use Rattle.rdf_model.specs.declared.term.Term.{Term}
use Rattle.rdf_model.specs.declared.triple.Triple.{Triple}
use Rattle.rdf_model.specs.declared.look.Look.{Look}
use Rattle.shape_model.specs.NodeLooks.{IsLook}
use Rattle.shape_model.specs.ShapeLooks.{Looks}
use Rattle.evidence_blocks.specs.declared.block.Block.{Block}
use Rattle.evidence_blocks.specs.Blocks.{Gives, looks_in}
use Rattle.evidence_blocks.specs.BlockText.{numbered_block}
use Rattle.evidence_blocks.specs.Shown.{triples_in}
use Rattle.evidence_blocks.specs.Verdicts.{IsValid}

-- by the triples of h the shape gives the block's result at f, its target, looking at listed looks alone
abbrev pub HoldsIn : List Triple → List Triple → Term → Term → Block → Type 0
HoldsIn h s shape f b = Gives h s b.row shape f × ((look : Look Term) → IsLook h (Looks s shape) f look → Contains (looks_in b.looks) look)

-- so it is by the block's own triples
abbrev pub ShowsByItself : List Triple → Block → Type 0
ShowsByItself s b = HoldsIn (triples_in b.looks) s b.shape b.focus b

-- the text begins with a block of this number that shows its result, and the rest follows; or with none
abbrev pub IsNextShown : List Triple → List Triple → ℕ → List ℕ → Option (Bor (List ℕ)) → Type 0
IsNextShown g s n text found =
    MatchOption found ((b : Block) (behind : List ℕ) → IsValid g s b → text ≢ numbered_block n b ++ behind)
    (λ rest. (b : Block) × IsValid g s b × (text ≡ numbered_block n b ++ rest.now))
