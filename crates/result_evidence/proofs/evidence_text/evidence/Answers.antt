use Rattle.std.proofs.Common.{◌≡◌, string_bytes, sym, subst}
use Rattle.std.proofs.lemmas.Result.{IfOk-weaker}
use Rattle.shape_eval.specs.Settings.{Setting}
use Rattle.evidence_blocks.specs.declared.block.Block.{Block}
use Rattle.evidence_blocks.specs.BlockText.{block_text}
use Rattle.result_evidence.specs.Standing.{HaveGraph, IsEvidenceOf, IsSomeResult}
use Rattle.result_evidence.proofs.evidence_text.evidence.Goals as goal

pub aim_of-requires-clause-row : goal.aim_of-requires-clause-row
aim_of-requires-clause-row g c = subst (λ (t : Setting). IsSomeResult t.terms t.ids t.shapes c.args.row.now) (sym c.evaluation-evaluation.ensures) c.requires.row

pub block_of-requires-clause-graph : goal.block_of-requires-clause-graph
block_of-requires-clause-graph g c = let row = c.requires.row in subst (λ (t : Setting). HaveGraph t.terms t.shapes) (sym c.evaluation-evaluation.ensures) (row.0, row.1)

pub returns : goal.returns
returns g c =
    let terms = c.args.data.now.terms in
    let ids = c.args.data.now.ids in
    let row = c.args.row.now in
    let block = c.in_ok-block.block in
    IfOk-weaker c.write_block.result (λ text. string_bytes text ≡ block_text block) (λ text. (b : Block) × IsEvidenceOf terms ids c.args.bound.now.shapes row b × (string_bytes text ≡ block_text b))
    (λ text is. (block, subst (λ (t : Setting). IsEvidenceOf t.terms t.ids t.shapes row block) c.evaluation-evaluation.ensures c.in_ok-block.ensures, is)) c.write_block.ensures
