-- The text that explains a validation: the evidence of each of its results.
use Rattle.std.specs.Prelude.{◌≡◌, ℕ, List, map}
use Rattle.std.specs.List.{All}
use Rattle.rdf_model.specs.declared.ids.Ids.{Ids}
use Rattle.rdf_model.specs.declared.term.Term.{Term}
use Rattle.rdf_model.specs.declared.triple.Triple.{Triple}
use Rattle.rdf_model.specs.Numbers.{graph_of}
use Rattle.shape_model.specs.declared.result_row.ResultRow.{ResultRow}
use Rattle.shape_model.specs.Validation.{Listing}
use Rattle.shape_ast.specs.declared.shape.Shape.{Shape}
use Rattle.evidence_blocks.specs.declared.block.Block.{Block}
use Rattle.evidence_blocks.specs.Blocks.{IsEvidence}
use Rattle.evidence_blocks.specs.BlockText.{numbered_blocks}
use Rattle.result_evidence.specs.Standing.{ForEach}

abbrev pub rows_of : List Block → List ResultRow
rows_of blocks = map (λ (b : Block). b.row) blocks

-- The blocks are evidence of just the results of validating the data graph by the shapes graph (SHACL 3.6), each once, in the
-- order of results.
pub record AreEvidence (g s : List Triple) (blocks : List Block) : Type 0 where
  pub listing : Listing g s (rows_of blocks)
  pub each : All (IsEvidence g s) blocks

-- the text is that of such blocks, numbered from 1
abbrev pub IsExplanation : List Triple → List Triple → List ℕ → Type 0
IsExplanation g s text = (blocks : List Block) × AreEvidence g s blocks × (text ≡ numbered_blocks 1 blocks)

-- by compiled shapes: the text is that of evidence of the rows, for each shapes graph that the shapes stand for
pub record IsTextOf (terms : List Term) (ids : List Ids) (shapes : List (Shape ℕ)) (rows : List ResultRow) (text : List ℕ) : Type 0 where
  pub blocks : List Block
  pub of_rows : rows_of blocks ≡ rows
  pub each : All (λ b. ForEach terms shapes (λ s. IsEvidence (graph_of terms ids) s b)) blocks
  pub written : text ≡ numbered_blocks 1 blocks
