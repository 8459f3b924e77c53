use Rattle.std.proofs.Common.{◌≡◌, ◌<◌, length, string_bytes, sym, subst}
use Rattle.std.proofs.lemmas.Result.{IfOk-weaker}
use Rattle.rdf_model.specs.Numbers.{graph_of, term_at}
use Rattle.shape_eval.specs.Settings.{Setting}
use Rattle.evidence_blocks.specs.declared.block.Block.{Block}
use Rattle.evidence_blocks.specs.Blocks.{IsLeastAim}
use Rattle.evidence_blocks.specs.BlockText.{block_text}
use Rattle.result_evidence.specs.Standing.{ForShape, HaveGraph, IsEvidenceOf}
use Rattle.result_evidence.proofs.evidence_text.evidence_at.Goals as goal

pub block_of-requires-clause-graph : goal.block_of-requires-clause-graph
block_of-requires-clause-graph g c = subst (λ (t : Setting). HaveGraph t.terms t.shapes) (sym c.evaluation-evaluation.ensures) c.requires.shapes

pub block_of-requires-clause-place : goal.block_of-requires-clause-place
block_of-requires-clause-place g c = subst (λ (t : Setting). c.args.aimed.now.place < length t.shapes) (sym c.evaluation-evaluation.ensures) c.requires.aimed.place

pub block_of-requires-clause-focus : goal.block_of-requires-clause-focus
block_of-requires-clause-focus g c = subst (λ (t : Setting). c.args.aimed.now.number < length t.terms) (sym c.evaluation-evaluation.ensures) c.requires.aimed.number

pub block_of-requires-clause-least : goal.block_of-requires-clause-least
block_of-requires-clause-least g c =
    let x = c.args.aimed.now in
    subst (λ (t : Setting). ForShape t.terms t.shapes x.place (λ s shape. IsLeastAim (graph_of t.terms t.ids) s x.row shape (term_at t.terms x.number))) (sym c.evaluation-evaluation.ensures) c.requires.aimed.least

pub returns : goal.returns
returns g c =
    let terms = c.args.data.now.terms in
    let ids = c.args.data.now.ids in
    let row = c.args.aimed.now.row in
    let block = c.in_ok-block.block in
    IfOk-weaker c.write_block.result (λ text. string_bytes text ≡ block_text block) (λ text. (b : Block) × IsEvidenceOf terms ids c.args.bound.now.shapes row b × (string_bytes text ≡ block_text b))
    (λ text is. (block, subst (λ (t : Setting). IsEvidenceOf t.terms t.ids t.shapes row block) c.evaluation-evaluation.ensures c.in_ok-block.ensures, is)) c.write_block.ensures
